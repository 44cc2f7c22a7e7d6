-- The definitions of `monitor_priorities`: the errors of each row, those of each priority, and what is kept for them.
pub mod WrongTables
pub mod RowErrors
pub mod PriorityErrors
pub mod RowsStand
