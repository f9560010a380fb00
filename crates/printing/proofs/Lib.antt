mod CloseLaws
