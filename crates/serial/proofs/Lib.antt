mod SerialLaws
