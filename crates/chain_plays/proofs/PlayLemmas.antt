-- A play before it is played, and while it is.
use Rattle.std.proofs.Common.{◌≡◌, ℕ, zero, suc, ◌≤◌, ◌↔◌, List, [], ◌∷◌, ◌++◌, length, Some, None, true, false, refl, ap, sym, ◌∙◌, subst, arith, inl, slice_index_or}
use Rattle.ts_outside.specs.Source.{SourceView}
use Rattle.ts_outside.specs.Sink.{SinkView}
use Rattle.chain_model.specs.Apply.{StageList}
use Rattle.chain_model.specs.Stuffed.{no_stuffing}
use Rattle.chain_core.specs.declared.core_plan.CorePlan.{CorePlan}
use Rattle.chain_core.specs.CoreNumbers.{IsValidPlan}
use Rattle.stage_run.specs.Seeing.{Seeing}
use Rattle.stage_run.specs.declared.input_part.InputPart.TheVariants.{Stream}
use Rattle.stage_run.specs.declared.output_part.OutputPart.{OutputPart}
use Rattle.stage_run.specs.declared.output_part.OutputPart.TheVariants as output
use Rattle.stage_run.specs.declared.stage_part.StagePart.{StagePart}
use Rattle.stage_run.specs.PartLists.{PartLists, fresh_lists}
use Rattle.stage_run.specs.PartStands.{PartStands, PartGives, kind_of, stuffing_in, sink_kind, stream_kind, a_stream, an_input, an_output}
use Rattle.stage_run.specs.Parts.{IsListOf, IsSinkOf}
use Rattle.chain_run.specs.Runs.{RunStart}
use Rattle.chain_run.specs.Ran.{IsValidRun}
use Rattle.chain_run.specs.OneStage.{Doing}
use Rattle.window_ring.specs.declared.ring.Ring.{Ring}
use Rattle.window_ring.specs.declared.stage_seat.StageSeat.{StageSeat}
use Rattle.chain_model.specs.Each.{Each}
use Rattle.window_ring.specs.Seats.{key_of, table_of}
use Rattle.window_ring.specs.Opening.{IsFresh}
use Rattle.chain_threads.specs.declared.stage.Stage.{Stage}
use Rattle.chain_threads.specs.Standing.{key_at}
use Rattle.chain_threads.specs.Turning.{IsNewStage, Stands}
use Rattle.chain_threads.specs.Driving.{Holds, AreReady, Keeps, AreBeside, Carried, HaveEnded}
use Rattle.chain_threads.specs.Beginning.{parts_of, seats_of}
use Rattle.chain_threads.specs.Over.{EndsAt, AllHaveEnded}
use Rattle.std.specs.Vec.{with_items}
use Rattle.std.proofs.Common.{Vec, Global, take, drop}
use Rattle.window_ring.specs.declared.opening.NewRing.{NewRing}
use Rattle.window_ring.specs.Opening.{IsNew}
use Rattle.chain_plays.specs.declared.ahead.AheadPlay.{AheadPlay}
use Rattle.chain_plays.specs.declared.playing.Playing.{Playing}
use Rattle.chain_plays.specs.Plays.{began, IsRingOf, IsInputAhead, IsAhead, ArePlaying, IsPlaying, HasPlayed}

pub two : {X : Type 0} (xs : List X) → length xs ≡ 2 → (x y : X) × (xs ≡ x ∷ y ∷ [])
two [] e = absurd (omega (arith, e))
two (x ∷ []) e = absurd (omega (arith, e))
two (x ∷ y ∷ []) e = (x, y, refl)
two (x ∷ y ∷ z ∷ zs) e = absurd (omega (arith, e))

-- a row that was lent and written whole
take-front : {X : Type 0} (xs ys : List X) (n : ℕ) → n ≡ length xs → take n (xs ++ ys) ≡ xs
take-front [] ys zero e = refl
take-front [] ys (suc n) e = absurd (omega (arith, e))
take-front (x ∷ xs) ys zero e = absurd (omega (arith, e))
take-front (x ∷ xs) ys (suc n) e = ap (λ l. x ∷ l) (take-front xs ys n (omega (arith, e)))

pub with_whole : {X : Type 0} (v : Vec X Global) (xs : List X) → length v.items ≡ length xs → (with_items v xs).items ≡ xs
with_whole v xs e = take-front xs (drop (length xs) v.items) v.len (omega (arith, e))

-- the seats of a new ring of two stages
pub record TwoSeats (new : NewRing) : Type 0 where
  pub first : StageSeat
  pub second : StageSeat
  pub seats_are : new.seats.items ≡ first ∷ second ∷ []
  pub first_fresh : IsFresh (key_of new.ring) (table_of new.ring) 0 first
  pub second_fresh : IsFresh (key_of new.ring) (table_of new.ring) 1 second

pub seats_apart : (plan : CorePlan) (new : NewRing) → plan.plugins ≡ 0 → IsNew plan new → TwoSeats new
seats_apart plan new none is =
    let pair = two new.seats.items (let a = is.all in omega (arith, a, none)) in
    record {
      first = pair.0;
      second = pair.1;
      seats_are = pair.2;
      first_fresh = subst (λ l. IsFresh (key_of new.ring) (table_of new.ring) 0 (slice_index_or l 0 pair.0)) pair.2 (is.fresh 0 pair.0 (let a = is.all in omega (arith, a)));
      second_fresh = subst (λ l. IsFresh (key_of new.ring) (table_of new.ring) 1 (slice_index_or l 1 pair.0)) pair.2 (is.fresh 1 pair.0 (let a = is.all in omega (arith, a)));
    }

pub ring_of_new : (plan : CorePlan) (new : NewRing) → IsValidPlan plan → plan.plugins ≡ 0 → IsNew plan new → IsRingOf plan new.ring
ring_of_new plan new valid none is = record { valid = valid; plugins = none; plan_is = is.plan_is; words = is.words; slots = is.slots }

some-sink : {K : Type 0} (seen : K → SinkView) (to : OutputPart K) → (view : SinkView) × IsSinkOf seen to view
some-sink seen (output.Stream sink) = (seen sink, refl)
some-sink seen output.Discard = (record { taken = None; name = None; faults = 0 }, tt)

module _ {S K P : Type 0} (see : Seeing S K P) (plan : CorePlan) (source : S) where
  valid-run : (to : OutputPart K) → IsValidPlan plan → plan.plugins ≡ 0 → IsValidRun (began plan source to)
  valid-run to valid none = record { valid = valid; rules_are = sym none; rooms_are = sym none; agree_late = λ k d lt. absurd (omega (arith, lt)) }

  -- ---- stages of which nothing was done

  abbrev input-lists : PartLists
  input-lists = fresh_lists (see.source source) (record { taken = None; name = None; faults = 0 }) 0

  fresh-input : (to : OutputPart K) (part : StagePart S K P) → kind_of part ≡ an_input → stream_kind part ≡ a_stream → stuffing_in part ≡ Some no_stuffing
      → ((view : SourceView) (sink : SinkView) (mark : ℕ) → view ≡ see.source source → PartStands see part (fresh_lists view sink mark) None)
      → ((view : SourceView) (sink : SinkView) (mark : ℕ) (input : StageList) → PartGives see part (fresh_lists view sink mark) input ↔ IsListOf see.source (Stream source) no_stuffing input)
      → Doing see (began plan source to) part 0 input-lists [] None 0 0 (λ _. []) (λ (_ : StageList). Unit {0})
  fresh-input to part kind stream stuffing stands gives = record {
    stands_for = stands (see.source source) _ 0 refl;
    given_is = refl;
    mark = omega arith;
    memory = λ e. cc;
    input = λ e. record {
      kind = kind;
      stuffing_is = stuffing;
      stream = stream;
      source = refl;
      within = inl (omega arith);
      is_list = λ input g. (gives (see.source source) _ 0 input).0 g;
    };
    plugin = λ j e lt. absurd (omega (arith, e));
    output = λ e. absurd (omega (arith, e));
  }

  fresh-output : (to : OutputPart K) (part : StagePart S K P) → plan.plugins ≡ 0 → kind_of part ≡ an_output → stream_kind part ≡ sink_kind to
      → ((view : SourceView) (sink : SinkView) (mark : ℕ) → IsSinkOf see.sink to sink → PartStands see part (fresh_lists view sink mark) None)
      → Doing see (began plan source to) part 1 (fresh_lists (see.source source) (some-sink see.sink to).0 0) [] None 0 0 (λ _. []) (λ (_ : StageList). Unit {0})
  fresh-output to part none kind stream stands = record {
    stands_for = stands (see.source source) (some-sink see.sink to).0 0 (some-sink see.sink to).1;
    given_is = refl;
    mark = omega arith;
    memory = λ e. cc;
    input = λ e. absurd (omega (arith, e));
    plugin = λ j e lt. absurd (omega (arith, none, lt));
    output = λ e. record {
      kind = kind;
      stream = stream;
      met = refl;
      sink = (some-sink see.sink to).1;
      failed = λ f. cc;
    };
  }

  -- ---- with their seats

  key-is : (ring : Ring) (to : OutputPart K) → (key_of ring).plan ≡ plan → key_of ring ≡ key_at (began plan source to) (key_of ring).base
  key-is ring to is = ap (λ p. record { plan = p; base = (key_of ring).base }) is

  module _ (ring : Ring) (of : IsRingOf plan ring) (to : OutputPart K) where
    abbrev begun : RunStart S K
    begun = began plan source to

    pub key : key_of ring ≡ key_at begun (key_of ring).base
    key = key-is ring to of.plan_is

    new-stage : (k : ℕ) (part : StagePart S K P) (seat : StageSeat) (lists : PartLists) → k ≤ 1 → IsFresh (key_of ring) (table_of ring) k seat
        → Doing see begun part k lists [] None 0 0 (λ _. []) (λ (_ : StageList). Unit {0}) → IsNewStage see begun (key_of ring).base (table_of ring) part seat
    new-stage k part seat lists le fresh doing = record {
      run = valid-run to of.valid of.plugins;
      words = (let a = of.words in omega (arith, a));
      slots = of.slots;
      is_stage = subst (λ n. n ≤ suc plan.plugins) (sym fresh.stage) (let a = of.plugins in omega (arith, a, le));
      fresh = subst (λ n. IsFresh (key_at begun (key_of ring).base) (table_of ring) n seat) (sym fresh.stage) (subst (λ z. IsFresh z (table_of ring) k seat) key fresh);
      lists = lists;
      doing = subst (λ n. Doing see begun part n lists [] None 0 0 (λ _. []) (λ (_ : StageList). Unit {0})) (sym fresh.stage) doing;
    }

    -- what `Stage::of` gives holds
    holds-new : (stage : Stage S K P) → stage.over ≡ false → Stands see begun (key_of ring).base (table_of ring) stage → Holds see begun (key_of ring).base (table_of ring) stage
    holds-new stage not stands = (λ e. stands, λ e. absurd (let f : false ≡ true = sym not ∙ e in cc))

    pub input_new : (part : StagePart S K P) (seat : StageSeat) → IsFresh (key_of ring) (table_of ring) 0 seat
        → kind_of part ≡ an_input → stream_kind part ≡ a_stream → stuffing_in part ≡ Some no_stuffing
        → ((view : SourceView) (sink : SinkView) (mark : ℕ) → view ≡ see.source source → PartStands see part (fresh_lists view sink mark) None)
        → ((view : SourceView) (sink : SinkView) (mark : ℕ) (input : StageList) → PartGives see part (fresh_lists view sink mark) input ↔ IsListOf see.source (Stream source) no_stuffing input)
        → IsNewStage see begun (key_of ring).base (table_of ring) part seat
    input_new part seat fresh kind stream stuffing stands gives = new-stage 0 part seat input-lists (omega arith) fresh (fresh-input to part kind stream stuffing stands gives)

    pub output_new : (part : StagePart S K P) (seat : StageSeat) → IsFresh (key_of ring) (table_of ring) 1 seat
        → kind_of part ≡ an_output → stream_kind part ≡ sink_kind to
        → ((view : SourceView) (sink : SinkView) (mark : ℕ) → IsSinkOf see.sink to sink → PartStands see part (fresh_lists view sink mark) None)
        → IsNewStage see begun (key_of ring).base (table_of ring) part seat
    output_new part seat fresh kind stream stands = new-stage 1 part seat _ (omega arith) fresh (fresh-output to part of.plugins kind stream stands)

    pub stage_holds : (stage : Stage S K P) → stage.over ≡ false → Stands see begun (key_of ring).base (table_of ring) stage → Holds see begun (key_of ring).base (table_of ring) stage
    stage_holds = holds-new

    -- ---- driven

    pub both_ready : (stages : List (Stage S K P)) → ArePlaying see plan source to ring stages → AreReady see ring stages
    unfolding AreReady
    both_ready stages are = (begun, (key_of ring).base, key, subst (Each (Holds see begun (key_of ring).base (table_of ring))) (sym are.both) (are.input_holds, (are.output_holds, tt)))

    pub kept : (old new : Stage S K P) → Keeps see ring old new → Holds see begun (key_of ring).base (table_of ring) old → Holds see begun (key_of ring).base (table_of ring) new
    unfolding Keeps
    kept old new k = k.1 begun (key_of ring).base key

    pub same-seat : (old new : Stage S K P) → Keeps see ring old new → new.seat.stage ≡ old.seat.stage
    unfolding Keeps
    same-seat old new k = k.0

    carried-two : (old : List (Stage S K P)) (are : ArePlaying see plan source to ring old) (new : List (Stage S K P)) → Carried see ring (are.input ∷ are.output ∷ []) new → ArePlaying see plan source to ring new
    unfolding AreBeside
    carried-two old are [] c = absurd c
    carried-two old are (x ∷ []) c = absurd c.1
    carried-two old are (x ∷ y ∷ []) c = record {
      input = x;
      output = y;
      both = refl;
      first = same-seat are.input x c.0 ∙ are.first;
      second = same-seat are.output y c.1.0 ∙ are.second;
      input_holds = kept are.input x c.0 are.input_holds;
      output_holds = kept are.output y c.1.0 are.output_holds;
    }
    carried-two old are (x ∷ y ∷ z ∷ zs) c = absurd c.1.1

    pub both_carried : (old new : List (Stage S K P)) → Carried see ring old new → ArePlaying see plan source to ring old → ArePlaying see plan source to ring new
    both_carried old new carried are = carried-two old are new (subst (λ l. Carried see ring l new) are.both carried)

    -- ---- ended

    both-over : (x y : Stage S K P) → HaveEnded true (x ∷ y ∷ []) → (x.over ≡ true) × (y.over ≡ true)
    unfolding HaveEnded
    both-over x y e = ((e refl).0, (e refl).1.0)

    ends-at : (k : ℕ) (stage : Stage S K P) → stage.seat.stage ≡ k → stage.over ≡ true → Holds see begun (key_of ring).base (table_of ring) stage → EndsAt see begun (key_of ring).base (table_of ring) k stage.seat stage.part
    ends-at k stage number over holds = record { stage = number; over = holds.1 over }

    pub both_ended : (stages : List (Stage S K P)) → ArePlaying see plan source to ring stages → HaveEnded true stages → AllHaveEnded see begun (key_of ring).base (table_of ring) (seats_of stages) (parts_of stages)
    both_ended stages are ended = subst (λ l. AllHaveEnded see begun (key_of ring).base (table_of ring) (seats_of l) (parts_of l)) (sym are.both) (record {
      run = valid-run to of.valid of.plugins;
      seats_are = (let a = of.plugins in omega (arith, a));
      parts_are = (let a = of.plugins in omega (arith, a));
      over = at;
    })
      where
        overs : (are.input.over ≡ true) × (are.output.over ≡ true)
        overs = both-over are.input are.output (subst (HaveEnded true) are.both ended)

        at : (k : ℕ) (d : StageSeat) (e : StagePart S K P) → k ≤ suc plan.plugins → EndsAt see begun (key_of ring).base (table_of ring) k (slice_index_or (are.input.seat ∷ are.output.seat ∷ []) k d) (slice_index_or (are.input.part ∷ are.output.part ∷ []) k e)
        at zero d e le = ends-at 0 are.input are.first overs.0 are.input_holds
        at (suc zero) d e le = ends-at 1 are.output are.second overs.1 are.output_holds
        at (suc (suc k)) d e le = absurd (let a = of.plugins in omega (arith, a, le))

    pub many_stages : (stages : List (Stage S K P)) → AllHaveEnded see begun (key_of ring).base (table_of ring) (seats_of stages) (parts_of stages) → length stages ≡ 2
    many_stages stages ended = (let a = ended.seats_are in let b = of.plugins in let c = seats-length stages in omega (arith, a, b, c))
      where
        seats-length : (stages : List (Stage S K P)) → length (seats_of stages) ≡ length stages
        seats-length [] = refl
        seats-length (s ∷ ss) = (let f = seats-length ss in omega (arith, f))

  -- ---- as a whole

  pub has_played : (to : OutputPart K) (p : Playing S K P) (new : List (Stage S K P)) → IsPlaying see plan source to p → Carried see p.ring p.stages.items new → HaveEnded true new
      → HasPlayed see plan source to (record p { stages = with_items p.stages new })
  has_played to p new is carried ended =
      let of = is.room.ring in
      let now = both_carried p.ring of to p.stages.items new carried is.stages in
      let whole = with_whole p.stages new (ap (λ l. length l) is.stages.both ∙ sym (ap (λ l. length l) now.both)) in
      record {
        room = record {
          ring = is.room.ring;
          of_table = is.room.of_table;
          root = is.room.root;
          no_seat = is.room.no_seat;
          seats_room = is.room.seats_room;
          no_part = is.room.no_part;
          parts_room = is.room.parts_room;
        };
        ended = subst (λ l. AllHaveEnded see (began plan source to) (key_of p.ring).base (table_of p.ring) (seats_of l) (parts_of l)) (sym whole) (both_ended p.ring of to new now ended);
      }

  -- ---- the one that reads ahead

  pub ahead_ready : (p : AheadPlay S K P) → IsAhead see plan source p → AreReady see p.ring p.stages.items
  unfolding AreReady
  ahead_ready p is = (
    began plan source output.Discard,
    (key_of p.ring).base,
    key p.ring is.ring output.Discard,
    subst (Each (Holds see (began plan source output.Discard) (key_of p.ring).base (table_of p.ring))) (sym is.one_stage) (is.input.holds output.Discard, tt),
  )

  pub ahead-one : (p : AheadPlay S K P) (is : IsAhead see plan source p) (new : List (Stage S K P)) → Carried see p.ring (is.stage ∷ []) new → (stage : Stage S K P) × (new ≡ stage ∷ []) × IsInputAhead see plan source p.ring stage
  unfolding AreBeside
  ahead-one p is [] c = absurd c
  ahead-one p is (x ∷ []) c = (
    x,
    refl,
    record {
      number = same-seat p.ring is.ring output.Discard is.stage x c.0 ∙ is.input.number;
      holds = λ to. kept p.ring is.ring to is.stage x c.0 (is.input.holds to);
    },
  )
  ahead-one p is (x ∷ y ∷ ys) c = absurd c.1

  pub ahead_carried : (p : AheadPlay S K P) (new : List (Stage S K P)) → IsAhead see plan source p → Carried see p.ring p.stages.items new → IsAhead see plan source (record p { stages = with_items p.stages new })
  ahead_carried p new is carried =
      let one = ahead-one p is new (subst (λ l. Carried see p.ring l new) is.one_stage carried) in
      let whole = with_whole p.stages new (ap (λ l. length l) is.one_stage ∙ sym (ap (λ l. length l) one.1)) in
      record {
        ring = is.ring;
        of_table = is.of_table;
        root = is.root;
        seat = is.seat;
        one_seat = is.one_seat;
        fresh = is.fresh;
        seats_room = is.seats_room;
        stage = one.0;
        one_stage = whole ∙ one.1;
        input = one.2;
        stages_room = is.stages_room;
        no_part = is.no_part;
        parts_room = is.parts_room;
      }
