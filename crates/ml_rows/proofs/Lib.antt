pub mod RowLaws
pub mod ValueLaws
pub mod CutLaws
pub mod Commas
