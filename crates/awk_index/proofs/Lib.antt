pub mod IndexLaws
mod NatLaws
