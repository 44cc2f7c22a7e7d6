use Rattle.std.proofs.Common.{◌≡◌, ◌<◌, ◌+◌, ◌%◌, ℕ, ◌≤◌, ◌++◌, List, length, take, drop, ap, sym, ◌∙◌, subst, arith, length-take-le, length-append}
use Rattle.std.proofs.lemmas.List.{take-append-le}
use Rattle.packet_forms.specs.Stripped.{unit, to_packet, stripped_from}
use Rattle.packet_forms.proofs.Strips.{in-unit, to_packet-nears}
use Rattle.ts_outside.specs.Source.{SourceView, unread}
use Rattle.packet_forms.specs.FormView.{form_view, place_behind}
use Rattle.packet_forms.proofs.Through.{behind-more, place-more, view-more, emptied}
use Rattle.packet_forms.proofs.reading_forms.FormSource.read_once.Goals as goal

pub invariant_of-self-2 : goal.invariant_of-self-2
invariant_of-self-2 g c =
    let n : ℕ = c.in_ok-count.count in
    let now = c.args.self.now in
    let bytes : List ℕ = take n c.read.new.into in
    let long : n ≡ length bytes = sym (length-take-le n c.read.new.into c.in_ok-count.ensures.within) in
    let left = ap (λ (s : SourceView). s.left) c.in_ok-count.ensures.moved in
    record {
      in_unit = subst (λ (u : ℕ). (now.at + n) % u < unit now.form) (sym c.unit.ensures) (in-unit now.form (now.at + n));
      behind = behind-more _ _ _ bytes now.behind left;
      place = subst (λ (u : ℕ). (now.at + n) % u ≡ place_behind now.form ((now.at + n) % u) (g.S.Source.seen now.first.value).left (g.S.Source.seen c.read.new.self).left)
          (sym c.unit.ensures) (place-more now.form now.at _ _ _ bytes n long now.behind now.place left);
    }

pub returns : goal.returns
returns g c =
    let n : ℕ = c.in_ok-count.count in
    let kept : ℕ = c.strip-kept.result in
    let now = c.args.self.now in
    let got : List ℕ = c.read.new.into in
    let bytes : List ℕ = take n got in
    let long : n ≡ length bytes = sym (length-take-le n got c.in_ok-count.ensures.within) in
    let few : kept ≤ length c.strip-kept.new.bytes = omega arith in
    let front : take kept (c.strip-kept.new.bytes ++ drop n got) ≡ stripped_from now.form now.at bytes =
    take-append-le kept c.strip-kept.new.bytes (drop n got) few ∙ c.strip-kept.ensures.stripped in
    let view = view-more now.form now.at n (g.S.Source.seen now.first.value) (g.S.Source.seen now.source) (g.S.Source.seen c.read.new.self) bytes long c.in_ok-count.ensures.moved in
    let within : kept ≤ length bytes = c.strip-kept.ensures.within in (
      omega (arith, length-append c.strip-kept.new.bytes (drop n got)),
      omega arith,
      subst (λ (u : ℕ). form_view now.form now.at (g.S.Source.seen now.first.value) (g.S.Source.seen now.source)
          ≡ unread (take kept (c.strip-kept.new.bytes ++ drop n got)) (form_view now.form ((now.at + n) % u) (g.S.Source.seen now.first.value) (g.S.Source.seen c.read.new.self)))
          (sym c.unit.ensures)
          (subst (λ (l : List ℕ). form_view now.form now.at (g.S.Source.seen now.first.value) (g.S.Source.seen now.source)
          ≡ unread l (form_view now.form ((now.at + n) % unit now.form) (g.S.Source.seen now.first.value) (g.S.Source.seen c.read.new.self)))
          (sym front) view),
      c.in_ok-count.ensures.end,
      λ none. emptied (g.S.Source.seen now.source).left (g.S.Source.seen c.read.new.self).left bytes
          (ap (λ (s : SourceView). s.left) c.in_ok-count.ensures.moved) (c.in_ok-count.ensures.end none),
      λ none.
          subst (λ (u : ℕ). to_packet now.form ((now.at + n) % u) + n ≡ to_packet now.form now.at) (sym c.unit.ensures)
          (subst (λ (m : ℕ). to_packet now.form ((now.at + m) % unit now.form) + m ≡ to_packet now.form now.at) (sym long)
          (to_packet-nears now.form now.at bytes now.in_unit
          (sym c.strip-kept.ensures.stripped ∙ ap (λ (k : ℕ). take k c.strip-kept.new.bytes) none))),
    )
