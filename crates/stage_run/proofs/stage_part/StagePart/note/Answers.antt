use Rattle.std.proofs.Common.{◌≤◌, length, refl, sym, subst}
use Rattle.plugin_trait.specs.Steps.{IsPreallocatedFor}
use Rattle.stage_run.specs.Seeing.{seeing}
use Rattle.stage_run.specs.declared.stage_part.StagePart.{StagePart}
use Rattle.stage_run.specs.declared.stage_part.StagePart.TheVariants.{Plugin}
use Rattle.stage_run.specs.PartLists.{marked_by}
use Rattle.stage_run.specs.PartStands.{PartStands}
use Rattle.stage_run.specs.Noting.{Noted}
use Rattle.stage_run.proofs.stage_part.StagePart.note.Goals as goal

pub note-requires : goal.note-requires
note-requires g c =
    let allows = c.requires.allows in
    let stands = subst (λ (p : StagePart g.row.S.Denot g.row.K.Denot g.row.P.Denot). PartStands (seeing g.S.Source.seen g.K.Sink.seen g.P.Plugin.rule g.P.Plugin.stands_for g.P.Plugin.preallocated) p allows.lists allows.told) c.in-Plugin.is allows.holds in
    record {
      history = allows.lists.met;
      mark = allows.lists.mark;
      holds = stands.heard.holds;
      not_below = allows.not_below;
      met = allows.met;
    }

pub returns : goal.returns
returns g c = record {
  noted = subst (λ (p : StagePart g.row.S.Denot g.row.K.Denot g.row.P.Denot). Noted (seeing g.S.Source.seen g.K.Sink.seen g.P.Plugin.rule g.P.Plugin.stands_for g.P.Plugin.preallocated) p (Plugin c.note.new.self) (λ lists. marked_by lists c.args.written c.note.result) (λ lists. (lists.mark ≤ c.args.written) × (c.args.written ≤ length lists.met)))
      (sym c.in-Plugin.is)
      (record {
        kind = refl;
        same_rule = c.note.ensures.same_rule;
        same_preallocated = c.note.ensures.same_preallocated;
        memory = λ ahead wants has. wants (subst (λ s. IsPreallocatedFor s ahead) c.note.ensures.same_preallocated has);
        stands = λ lists told allows was. c.note.ensures.noted lists told was allows.0 allows.1;
      });
}
