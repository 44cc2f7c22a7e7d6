use Rattle.std.proofs.Common.{◌≡◌, [], ◌∷◌, ◌++◌, length, replicate, sym, ap, ◌∙◌, arith, refl}
use Rattle.std.proofs.lemmas.List.{length-replicate}
use Rattle.window_ring.specs.Hands.{Row, row_of}
use Rattle.window_ring.specs.Views.{land_of}
use Rattle.ts_packet.specs.Cells.{Dropped}
use Rattle.window_ring.specs.declared.view.Key.{Key}
use Rattle.window_ring.specs.declared.state.State.{State}
use Rattle.window_ring.proofs.Starts.{starts}
use Rattle.window_ring.proofs.opening.set_up.Goals as goal

pub returns : goal.returns
returns c =
    let plan = c.args.plan.now in let key : Key = record { plan = plan; base = c.bases-base.result } in let w = c.in-Ok-cell_land.window in
    let land : w.land ≡ land_of key = λ i. record { base = sym c.bases-base.ensures i; count = c.in-Ok-cell_land.ensures.2 i } in
    let value : State = record { core = c.in_ok-core.core; links = c.fill_links.new.links; last = record { stage = 0; done = 0; word = record { agreed = Rattle.std.specs.Prelude.None; ended = Rattle.std.specs.Prelude.None } } } in
    let n = c.fill_links.ensures.0 in
    let one : c.push_reserved.new.self.items ≡ c.whole.result ∷ [] = c.push_reserved.ensures.items ∙ ap (λ l. l ++ c.whole.result ∷ []) c.in_ok-links.ensures.items in
    let links : value.links.items ≡ c.whole.result ∷ replicate n (row_of 0 (land_of key) []) = c.fill_links.ensures.1 ∙ ap (λ l. l ++ replicate n (row_of 0 (land_of key) [])) one in (
      record {
        valid = record { plugins = c.requires.plugins; some_buffer = c.requires.some_buffer; buffer = c.requires.buffer; most = c.requires.most; users = c.requires.users };
        plan_is = refl;
        value = value;
        one = c.push_reserved-2.ensures.items ∙ ap (λ l. l ++ value ∷ []) c.in-Ok-with_capacity.ensures.items;
        stands = starts key value c.whole.result n c.in_ok-core.ensures.plan c.in_ok-core.ensures.stands links (ap (λ (r : Row). r.at) c.whole.ensures) (ap (λ (r : Row). r.land) c.whole.ensures ∙ land)
            (ap (λ (r : Row). length r.cells) c.whole.ensures ∙ (ap length c.in-Ok-cell_land.ensures.1 ∙ length-replicate plan.buffer Dropped)) (let l = c.fill_links.ensures.2 in omega (arith, l));
      },
      (let a = c.in-Ok.ensures.len in omega (arith, a)),
      (let a = c.in-Ok.ensures.capacity in omega (arith, a)),
    )
