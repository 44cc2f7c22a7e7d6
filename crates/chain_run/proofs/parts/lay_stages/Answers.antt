use Rattle.std.proofs.Common.{List, [], ◌∷◌, ◌++◌, length, ap, ◌∙◌, arith, length-append}
use Rattle.stage_run.specs.Seeing.{seeing}
use Rattle.stage_run.specs.declared.stage_part.StagePart.{StagePart}
use Rattle.chain_run.proofs.StartLemmas.{made-length}
use Rattle.chain_run.proofs.RunLemmas.{laid-row}
use Rattle.chain_run.proofs.parts.lay_stages.Goals as goal

pub push_reserved-requires-2 : goal.push_reserved-requires-2
push_reserved-requires-2 g c =
    let many = made-length (seeing g.S.Source.seen g.K.Sink.seen g.P.Plugin.rule g.P.Plugin.stands_for g.P.Plugin.preallocated) c.add_plugins.ensures.made.0 c.args.plugins.now.items c.add_plugins.ensures.made.2 in
    let row = ap (λ (l : List (StagePart g.row.S.Denot g.row.K.Denot g.row.P.Denot)). length l) c.add_plugins.ensures.made.1 in
    let first = ap (λ (l : List (StagePart g.row.S.Denot g.row.K.Denot g.row.P.Denot)). length l) c.push_reserved.ensures.items in
    let none = ap (λ (l : List (StagePart g.row.S.Denot g.row.K.Denot g.row.P.Denot)). length l) c.requires.none in
    omega (arith, length-append c.push_reserved.new.self.items c.add_plugins.ensures.made.0, length-append c.args.rooms.row.items (c.of_input.result ∷ []), c.add_plugins.ensures.capacity, c.push_reserved.ensures.capacity, c.requires.room)

pub returns-clause-new : goal.returns-clause-new
returns-clause-new g c = λ plan valid number.
    laid-row (seeing g.S.Source.seen g.K.Sink.seen g.P.Plugin.rule g.P.Plugin.stands_for g.P.Plugin.preallocated) c.args.input c.args.stuffing c.args.plugins.now.items c.args.output plan c.push_reserved-2.new.self.items
    (record {
      valid = valid;
      fresh = c.requires.fresh;
      number = omega (arith, number);
      opens = g.met.P.Plugin.starts_open;
      first = c.of_input.result;
      out = c.of_output.result;
      made = c.add_plugins.ensures.made.0;
      are = c.add_plugins.ensures.made.2;
      row = c.push_reserved-2.ensures.items
          ∙ ap (λ (l : List (StagePart g.row.S.Denot g.row.K.Denot g.row.P.Denot)). l ++ c.of_output.result ∷ [])
          (c.add_plugins.ensures.made.1 ∙ ap (λ (l : List (StagePart g.row.S.Denot g.row.K.Denot g.row.P.Denot)). l ++ c.add_plugins.ensures.made.0)
          (c.push_reserved.ensures.items ∙ ap (λ (l : List (StagePart g.row.S.Denot g.row.K.Denot g.row.P.Denot)). l ++ c.of_input.result ∷ []) c.requires.none));
      in_kind = c.of_input.ensures.kind;
      in_stream = c.of_input.ensures.stream;
      in_stuffing = c.of_input.ensures.stuffing;
      in_stands = c.of_input.ensures.stands;
      in_gives = c.of_input.ensures.gives;
      out_kind = c.of_output.ensures.kind;
      out_stream = c.of_output.ensures.stream;
      out_stands = c.of_output.ensures.stands;
    })
