mod OutcomeLaws
mod EndLaws
mod RecursionLaws
mod PairLaws
mod UnequalLaws
