mod JumpLaws
