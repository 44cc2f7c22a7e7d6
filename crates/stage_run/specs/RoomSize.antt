-- How many bytes there is room for. This project's own rule.
use Rattle.std.specs.Prelude.{ℕ, vec_len}
use Rattle.stage_run.specs.declared.io_buffer.IoBuffer.{IoBuffer}

abbrev pub bytes_of_room : IoBuffer → ℕ
bytes_of_room room = vec_len room.bytes
