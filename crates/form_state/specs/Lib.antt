pub mod Form
pub mod FormLaws
pub mod Check
pub mod Access
pub mod AccessLaws
