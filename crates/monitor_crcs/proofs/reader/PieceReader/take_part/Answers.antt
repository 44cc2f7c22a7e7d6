use Rattle.std.proofs.Common.{◌≡◌, List, ℕ, ◌++◌, take, drop, sym, ◌∙◌, ap, arith}
use Rattle.monitor_crcs.proofs.Little.{little-empty}
use Rattle.monitor_crcs.proofs.Taking.{takes-repeat, takes-plain, takes-unit, takes-invalid, rest-after}
use Rattle.ts_demux.specs.Part.{Part, pointer_of}
use Rattle.monitor_crcs.specs.WrongCrcs.{told_in}
use Rattle.monitor_crcs.specs.Reader.{told_with}
use Rattle.monitor_crcs.proofs.reader.PieceReader.take_part.Goals as goal

pub returns-then-repeats-clause-told : goal.returns-then-repeats-clause-told
returns-then-repeats-clause-told c =
    let p : Part = record { counter = c.args.counter; unit_start = c.args.unit_start; payload = c.args.payload.now } in
    takes-repeat c.args.self.now p c.args.waiting.now.items (sym c.repeats.ensures ∙ c.if-repeats.true)

pub returns-then-not-unit_start-clause-told : goal.returns-then-not-unit_start-clause-told
returns-then-not-unit_start-clause-told c =
    let p : Part = record { counter = c.args.counter; unit_start = c.args.unit_start; payload = c.args.payload.now } in
    takes-plain c.args.self.now c.end_at_jump.new.self c.go_on.new.self p c.args.waiting.now.items c.go_on.new.waiting.items
    (sym c.repeats.ensures ∙ c.if-repeats.false) c.requires.rest.little.not_whole c.end_at_jump.ensures c.if-not-unit_start.true c.in_ok-go_on.ensures.last
    c.in_ok-go_on.ensures.told c.in_ok-go_on.ensures.grows

pub returns-in_default-clause-rest : goal.returns-in_default-clause-rest
returns-in_default-clause-rest c = rest-after c.close.new.self c.args.counter (c.close.ensures.last ∙ c.end_at_jump.ensures.last) c.requires.counter (little-empty c.close.new.self c.close.ensures.empty)

pub returns-in_default-clause-told : goal.returns-in_default-clause-told
returns-in_default-clause-told c =
    let p : Part = record { counter = c.args.counter; unit_start = c.args.unit_start; payload = c.args.payload.now } in
    takes-invalid c.args.self.now c.end_at_jump.new.self c.close.new.self p c.args.waiting.now.items
    (sym c.repeats.ensures ∙ c.if-repeats.false) c.requires.rest.little.not_whole c.end_at_jump.ensures c.if-not-unit_start.false c.in_default.ensures.invalid c.close.ensures.last c.close.ensures.closed

pub returns-clause-told : goal.returns-clause-told
returns-clause-told c =
    let p : Part = record { counter = c.args.counter; unit_start = c.args.unit_start; payload = c.args.payload.now } in
    let body : List ℕ = drop 1 c.args.payload.now in
    let first : c.in-Some.before.now ≡ take (pointer_of p) body = c.in-Some.ensures.before in
    let next : c.in-Some.after.now ≡ drop (pointer_of p) body = c.in-Some.ensures.after in
    takes-unit c.args.self.now c.end_at_jump.new.self c.go_on-2.new.self c.begin.new.self p c.args.waiting.now.items c.go_on-2.new.waiting.items c.begin.new.waiting.items
    (sym c.repeats.ensures ∙ c.if-repeats.false) c.requires.rest.little.not_whole c.end_at_jump.ensures c.if-not-unit_start.false c.in-Some.ensures.valid
    (c.in_ok-begin.ensures.last ∙ c.in_ok-go_on-2.ensures.last) c.in_ok-go_on-2.ensures.little.not_whole
    (λ more. ap (λ t. c.args.waiting.now.items ++ told_with c.end_at_jump.new.self (t ++ more)) (sym first) ∙ c.in_ok-go_on-2.ensures.told more)
    (λ more. ap (λ t. c.go_on-2.new.waiting.items ++ told_in (t ++ more)) (sym next) ∙ c.in_ok-begin.ensures.told more)
    (omega (arith, c.in_ok-go_on-2.ensures.grows, c.in_ok-begin.ensures.grows))
