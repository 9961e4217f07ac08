pub mod OneMacro
