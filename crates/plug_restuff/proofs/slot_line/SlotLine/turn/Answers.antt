use Rattle.std.proofs.Common.{◌≡◌, ℕ, ◌+◌, List, [], ◌∷◌, ◌++◌, length, drop, ap, sym, subst, ◌∙◌, length-append}
use Rattle.std.proofs.lemmas.Bool.{cond-true, cond-false}
use Rattle.ts_packet.specs.declared.labelled.Labelled.{Labelled}
use Rattle.plug_restuff.specs.RestuffRule.{waits_after, with_came}
use Rattle.plug_restuff.specs.RestuffState.{Counts, conf_of}
use Rattle.plug_restuff.specs.Slots.{is_slot}
use Rattle.plug_restuff.specs.declared.restuff_conf.RestuffConf.{RestuffConf}
use Rattle.plug_restuff.specs.declared.slot_line.SlotLine.{SlotLine}
use Rattle.plug_restuff.proofs.WaitLemmas.{waits-more}
use Rattle.plug_restuff.proofs.slot_line.SlotLine.turn.Goals as goal

-- what waits of these packets, with the one of the present cell
with-came : (line : SlotLine) (rows : List Labelled) (came : Labelled) → line.count.cell ≡ length rows → line.waiting.items ≡ waits_after (conf_of line) rows
    → with_came line.count.cell came line.waiting.items ≡ with_came (length rows) came (waits_after (conf_of line) rows)
with-came line rows came cell waiting =
    ap (λ (n : ℕ). with_came n came line.waiting.items) cell ∙ ap (with_came (length rows) came) waiting

pub returns-then-not-step-clause-stands : goal.returns-then-not-step-clause-stands
returns-then-not-step-clause-stands c = λ rows stands.
    let line = c.args.self.now in
    let conf = conf_of line in
    let wait = with_came (length rows) c.args.came (waits_after conf rows) in
    let more : length (rows ++ c.args.came ∷ []) ≡ length rows + 1 = length-append rows (c.args.came ∷ []) in
    let same : conf_of (record { count = c.step.new.self; waiting = c.put.new.self.waiting }) ≡ conf = cc in
    let slot : is_slot conf.from conf.to (length rows) ≡ c.step.result = cc in
    record {
      counts = c.step.ensures.counts;
      cell = cc;
      waiting = c.put.ensures.waiting
          ∙ (with-came line rows c.args.came stands.cell stands.waiting
          ∙ (sym (cond-false (is_slot conf.from conf.to (length rows)) (drop 1 wait) wait (slot ∙ cc))
          ∙ (sym (waits-more conf rows c.args.came)
          ∙ ap (λ (conf : RestuffConf). waits_after conf (rows ++ c.args.came ∷ [])) (sym same))));
    }

pub returns-clause-stands : goal.returns-clause-stands
returns-clause-stands c = λ rows stands.
    let line = c.args.self.now in
    let conf = conf_of line in
    let wait = with_came (length rows) c.args.came (waits_after conf rows) in
    let more : length (rows ++ c.args.came ∷ []) ≡ length rows + 1 = length-append rows (c.args.came ∷ []) in
    let same : conf_of c.give.new.self ≡ conf = cc in
    let slot : is_slot conf.from conf.to (length rows) ≡ c.step.result = cc in
    record {
      counts = subst Counts (sym c.give.ensures.count) c.step.ensures.counts;
      cell = cc;
      waiting = c.give.ensures.waiting
          ∙ (ap (drop 1) (c.put.ensures.waiting ∙ with-came line rows c.args.came stands.cell stands.waiting)
          ∙ (sym (cond-true (is_slot conf.from conf.to (length rows)) (drop 1 wait) wait (slot ∙ cc))
          ∙ (sym (waits-more conf rows c.args.came)
          ∙ ap (λ (conf : RestuffConf). waits_after conf (rows ++ c.args.came ∷ [])) (sym same))));
    }
