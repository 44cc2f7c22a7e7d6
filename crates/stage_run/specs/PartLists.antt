-- The lists that a part of a chain stands for: what it was given and what it has given on. The part keeps less; it is
-- tied to them by a relation. This project's own rule.
use Rattle.std.specs.Prelude.{ℕ, List, [], Result, is_ok, if◌then◌else◌}
use Rattle.std.specs.declared.alloc.AllocError.{AllocError}
use Rattle.ts_packet.specs.declared.cell.Cell.{Cell}
use Rattle.ts_outside.specs.Source.{SourceView}
use Rattle.ts_outside.specs.Sink.{SinkView}

pub record PartLists : Type 0 where
  -- the cells that a plugin or an output met and gave on
  pub met : List Cell
  -- the cells that the stage gave
  pub given : List Cell
  -- the bytes that an input read
  pub read : List ℕ
  -- the bytes that an output wrote of the packet at which a write failed
  pub cut : List ℕ
  -- the source of an input, and the sink of an output, as they were when the part was made
  pub source : SourceView
  pub sink : SinkView
  -- the greatest mark that a plugin was given, and the position up to which its lines were taken away
  pub mark : ℕ
  pub from : ℕ

-- the lists of a new part, of which no line was taken away
abbrev pub fresh_lists : SourceView → SinkView → ℕ → PartLists
fresh_lists source sink mark = record {
  met = [];
  given = [];
  read = [];
  cut = [];
  source = source;
  sink = sink;
  mark = mark;
  from = 0;
}

-- the lists of a plugin that was given a mark; where memory ran out they are as they were
abbrev pub marked_by : PartLists → ℕ → Result Unit AllocError → PartLists
marked_by lists written answer = record lists { mark = if is_ok answer then written else lists.mark }

-- the lists of a plugin of which all lines up to its mark were taken away
abbrev pub lines_taken : PartLists → PartLists
lines_taken lists = record lists { from = lists.mark }
