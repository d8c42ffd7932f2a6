pub mod OptionNodes
