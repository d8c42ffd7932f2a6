mod MaskLaws
mod ColumnLaws
mod EndLaws
mod ChosenLaws
mod Worked
