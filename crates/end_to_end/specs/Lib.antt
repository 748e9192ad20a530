pub mod UndoneRun
