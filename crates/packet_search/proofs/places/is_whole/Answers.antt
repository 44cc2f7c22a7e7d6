use Rattle.std.proofs.Common.{◌≡◌, ◌+◌, ◌∙◌, ℕ, Bool, true, ◌&&◌, nat_le, nat_eq, length, get_or, ap, sym, arith}
use Rattle.std.proofs.lemmas.Bool.{le-leb, lt-leb, and_left}
use Rattle.packet_forms.specs.Stripped.{lead}
use Rattle.packet_search.specs.Rule.{is_whole}
use Rattle.packet_search.proofs.places.is_whole.Goals as goal

pub returns-then-bytes-lead : goal.returns-then-bytes-lead
unfolding is_whole
returns-then-bytes-lead c =
    let long : nat_le (lead c.args.form + 188) (length c.args.bytes.now) ≡ true = le-leb (lead c.args.form + 188) (length c.args.bytes.now) (omega arith) in
    ap (λ (n : ℕ). nat_eq (get_or c.args.bytes.now n 0) 71) c.lead-lead.ensures
    ∙ sym (ap (λ (t : Bool). t && nat_eq (get_or c.args.bytes.now (lead c.args.form) 0) 71) long)

pub returns-else-bytes-lead : goal.returns-else-bytes-lead
unfolding is_whole
returns-else-bytes-lead c =
    let short : nat_le (c.lead-lead.result + 188) (length c.args.bytes.now) ≡ Bool.false = lt-leb (c.lead-lead.result + 188) (length c.args.bytes.now) (omega arith) in
    let also : nat_le (lead c.args.form + 188) (length c.args.bytes.now) ≡ Bool.false = lt-leb (lead c.args.form + 188) (length c.args.bytes.now) (omega arith) in
    short ∙ sym (and_left (nat_le (lead c.args.form + 188) (length c.args.bytes.now)) (nat_eq (get_or c.args.bytes.now (lead c.args.form) 0) 71) also)
