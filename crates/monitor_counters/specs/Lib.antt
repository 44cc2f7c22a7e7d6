-- The definitions of errors of continuity counters.
pub mod CounterErrors
pub mod MetPackets
