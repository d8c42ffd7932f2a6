mod Worked
mod OneLaws
mod LevelLaws
mod EndLaws
mod AnswerLaws
mod RefusedLaws
