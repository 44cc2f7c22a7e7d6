-- The definitions of `test_chain`: seats of stages that go on.
pub mod Going
