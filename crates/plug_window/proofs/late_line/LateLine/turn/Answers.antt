use Rattle.std.proofs.Common.{refl, true≢false, ◌≡◌, ℕ, ◌≤◌, ap, List, [], ◌∷◌, ◌++◌, sym, ◌∙◌, subst}
use Rattle.std.proofs.lemmas.List.{map-append}
use Rattle.ts_packet.specs.declared.labelled.Labelled.{Labelled}
use Rattle.ts_packet.specs.LiveRows.{packets_in}
use Rattle.circular_buffer.specs.Buffer.{keep_last}
use Rattle.plug_psi.specs.ReferredStands.{StandsFor as Refers}
use Rattle.plug_window.specs.RmorphanRule.{is_referred}
use Rattle.plug_window.proofs.LateLemmas.{given-up, kept-last}
use Rattle.plug_window.proofs.late_line.LateLine.turn.Goals as goal

-- the packets of the rows, with the one that came in
packets-more : (rows : List Labelled) (came : Labelled) → packets_in (rows ++ came ∷ []) ≡ packets_in rows ++ came.packet ∷ []
packets-more rows came = map-append (λ (row : Labelled). row.packet) rows (came ∷ [])

pub returns-clause-given : goal.returns-clause-given
returns-clause-given c = λ rows stands.
    let line = c.args.self.now in
    let came = c.args.came in
    let referred = subst (λ (packets : List (List ℕ)). Refers c.feed.new.self packets) (sym (packets-more rows came)) (c.in_ok-feed.ensures.stands (packets_in rows) stands.referred) in
    c.shift-given.ensures.given (packets_in (rows ++ came ∷ [])) referred
    ∙ given-up (is_referred (rows ++ came ∷ [])) line.late.capacity rows came line.late.items _ stands.some_window stands.late refl

pub returns-clause-stands : goal.returns-clause-stands
returns-clause-stands c = λ rows stands.
    let line = c.args.self.now in
    let came = c.args.came in
    let window = c.shift-given.ensures.window in
    let referred = subst (λ (packets : List (List ℕ)). Refers c.feed.new.self packets) (sym (packets-more rows came)) (c.in_ok-feed.ensures.stands (packets_in rows) stands.referred) in
    record {
      some_window = subst (λ (n : ℕ). 1 ≤ n) (sym window) stands.some_window;
      late = c.shift-given.ensures.late
          ∙ (ap (λ (items : List Labelled). keep_last line.late.capacity (items ++ came ∷ [])) stands.late
          ∙ (kept-last line.late.capacity rows came ∙ ap (λ (n : ℕ). keep_last n (rows ++ came ∷ [])) (sym window)));
      referred = subst (λ referred. Refers referred (packets_in (rows ++ came ∷ []))) (sym c.shift-given.ensures.same) referred;
    }

pub returns-in_err-feed-clause-quiet : goal.returns-in_err-feed-clause-quiet
returns-in_err-feed-clause-quiet c = λ rows stands none. absurd (true≢false (sym (c.in_err-feed.ensures.quiet (packets_in rows) stands.referred none)))
