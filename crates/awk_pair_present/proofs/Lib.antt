mod OneOption
mod PresenceLaws
mod MaskedNumbers
mod KeptMasks
mod NarrowIndexes
