use Rattle.std.proofs.Common.{List, ◌++◌, sym, ap, subst, ◌∙◌, arith}
use Rattle.plugin_trait.specs.declared.heard.Heard.{Heard}
use Rattle.stage_run.specs.Seeing.{seeing}
use Rattle.stage_run.specs.declared.stage_part.StagePart.{StagePart}
use Rattle.chain_run.specs.Parts.{AreStages, AreTakenFrom, ArePluginsAndOutput}
use Rattle.chain_run.proofs.PartLemmas.{first-taken, one-is, some-stages}
use Rattle.chain_run.proofs.parts.take_apart.Goals as goal

pub remove-requires : goal.remove-requires
remove-requires g c =
    omega (arith, some-stages (seeing g.S.Source.seen g.K.Sink.seen g.P.Plugin.rule g.P.Plugin.stands_for g.P.Plugin.preallocated) c.args.parts.items c.requires.stages)

pub into_input-input-requires : goal.into_input-input-requires
into_input-input-requires g c =
    let see = (seeing g.S.Source.seen g.K.Sink.seen g.P.Plugin.rule g.P.Plugin.stands_for g.P.Plugin.preallocated) in
    (subst (AreStages see) (first-taken c.args.parts.items c.remove.new.self.items c.remove.result (some-stages see c.args.parts.items c.requires.stages) c.remove.ensures.value c.remove.ensures.by_index.2) c.requires.stages).0

pub take_plugins-requires-clause-kinds : goal.take_plugins-requires-clause-kinds
take_plugins-requires-clause-kinds g c =
    let see = (seeing g.S.Source.seen g.K.Sink.seen g.P.Plugin.rule g.P.Plugin.stands_for g.P.Plugin.preallocated) in
    (subst (AreStages see) (first-taken c.args.parts.items c.remove.new.self.items c.remove.result (some-stages see c.args.parts.items c.requires.stages) c.remove.ensures.value c.remove.ensures.by_index.2) c.requires.stages).1

pub into_output-output-requires : goal.into_output-output-requires
into_output-output-requires g c =
    let see = (seeing g.S.Source.seen g.K.Sink.seen g.P.Plugin.rule g.P.Plugin.stands_for g.P.Plugin.preallocated) in
    subst (ArePluginsAndOutput see) (one-is c.take_plugins.new.parts.items c.remove-2.result (omega (arith, c.take_plugins.ensures.one)) c.remove-2.ensures.value) c.take_plugins.ensures.output

pub returns : goal.returns
returns g c =
    let see = (seeing g.S.Source.seen g.K.Sink.seen g.P.Plugin.rule g.P.Plugin.stands_for g.P.Plugin.preallocated) in
    record {
      first = c.remove.result;
      rest = c.remove.new.self.items;
      row = first-taken c.args.parts.items c.remove.new.self.items c.remove.result (some-stages see c.args.parts.items c.requires.stages) c.remove.ensures.value c.remove.ensures.by_index.2;
      front = c.take_plugins.ensures.one_left.0;
      last = c.remove-2.result;
      ends = c.take_plugins.ensures.one_left.1 ∙ ap (λ (l : List (StagePart g.row.S.Denot g.row.K.Denot g.row.P.Denot)). c.take_plugins.ensures.one_left.0 ++ l)
          (one-is c.take_plugins.new.parts.items c.remove-2.result (omega (arith, c.take_plugins.ensures.one)) c.remove-2.ensures.value);
      in_stream = c.into_input-input.ensures.stream;
      in_leaves = c.into_input-input.ensures.leaves;
      in_read = c.into_input-input.ensures.read;
      some_list = c.into_input-input.ensures.some_list;
      taken = subst (λ (l : List (Heard g.row.P.Denot)). AreTakenFrom see c.remove.new.self.items l)
          (sym (c.take_plugins.ensures.taken.1 ∙ ap (λ (l : List (Heard g.row.P.Denot)). l ++ c.take_plugins.ensures.taken.0) c.requires.none)) c.take_plugins.ensures.taken.2;
      out_stream = c.into_output-output.ensures.stream;
      out_leaves = c.into_output-output.ensures.leaves;
    }
