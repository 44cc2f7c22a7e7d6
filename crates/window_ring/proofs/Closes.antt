-- What a ring comes to when all its seats are in the root.
use Rattle.std.proofs.Common.{◌≡◌, ⊎_elim, ℕ, ◌<◌, List, [], ◌∷◌, sym, ap, ◌∙◌, subst}
use mathlib.Core.Option.{some, some-injective}
use lib.ListN.{get_elem?}
use Rattle.atomic_table.specs.Table.{Final, Seen}
use Rattle.window_ring.specs.declared.state.State.{State}
use Rattle.window_ring.specs.declared.view.Key.{Key}
use Rattle.window_ring.specs.declared.view.View.{View}
use Rattle.window_ring.specs.declared.view.Holding.{Holding}
use Rattle.window_ring.specs.Views.{Since, root_view}
use Rattle.chain_model.specs.Each.{Each}
use Rattle.window_ring.specs.Turns.{Kept, IsFree}
use Rattle.window_ring.specs.Stands.{Stands}
use Rattle.window_ring.specs.Closing.{Has, CoversAll, Opened}
use Rattle.window_ring.proofs.Steps.{closes}

owned : (F : Holding → Type 0) (k : ℕ) (hs : List Holding) → Each F hs → Has k hs → (h : Holding) × (h.stage ≡ k) × F h
owned F k [] t h = absurd h
owned F k (x ∷ xs) t h = ⊎_elim (λ (e : x.stage ≡ k). (x, e, t.0)) (λ m. owned F k xs t.1 m) h

weaker : {F G : Holding → Type 0} (hs : List Holding) → ((h : Holding) → F h → G h) → Each F hs → Each G hs
weaker [] f t = tt
weaker (h ∷ hs) f t = (f h t.0, weaker hs f t.1)

pub opened : (key : Key) (id made : ℕ) (held : List Holding) (v : View) (words : List ℕ) (slots : List State) (value : State) → v ≡ root_view key made held → CoversAll key held → Final (Seen (Kept key) id v) words slots → get_elem? slots 0 ≡ some value → Opened key held value
opened key id made held v words slots value is all f at =
    let s = f.0 in let kept : Kept key s = f.1.0 in
    let seen : get_elem? s.views id ≡ some (root_view key made held) = f.1.1 ∙ ap some is in
    let mine = kept.knows id (root_view key made held) seen in
    let free : IsFree key s kept.history = closes key s id made held kept seen (λ k le. let o = owned (λ (h : Holding). (kept.owner h.stage ≡ id) × (h.stage < kept.made) × Since h.stage h.seen kept.history) k held mine.held (all k le) in (o.0, o.1, ap kept.owner (sym o.1) ∙ o.2.0)) in
    let home : get_elem? slots 0 ≡ some free.value = f.4 0 free.value (ap (λ hs. get_elem? hs 0) free.home) in
    let same : free.value ≡ value = some-injective free.value value (sym home ∙ at) in
    record { history = kept.history; run = kept.run; since = weaker held (λ h t. t.2) mine.held; stands = subst (λ x. Stands key x kept.history) same free.stands }
