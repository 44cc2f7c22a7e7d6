use Rattle.std.proofs.Common.{◌≡◌, ◌+◌, ◌-◌, ◌*◌, ◌≤◌, length, take, drop, sym, ap, ◌∙◌, arith, length-take-le, length-drop, length-append}
use Rattle.ts_outside.specs.Source.{unread}
use Rattle.in_place.proofs.Rows.{joins, stays, as_read}
use Rattle.in_place.proofs.reading.fill.Goals.{in-Ok, in-Err}
use Rattle.in_place.proofs.reading.fill.Goals as goal

pub returns-clause-reads : goal.returns-clause-reads
returns-clause-reads g c =
    let k1 = c.copy_from_slice in let k2 = c.copy_from_slice-2 in let r = c.read_after-read.ensures in let s = c.rows_in_sync-done.ensures in let m = c.mend.ensures in
    let h = c.args.have in let n = c.match-read.count in let d = c.rows_in_sync-done.result in let u = d * 188 in
    let now = c.read_after-read.new.bytes in let room = c.args.room.now in
    let few = c.requires.few in let some = c.requires.some in let fits = c.requires.fits in let within = s.within in
    let small : h ≤ length room = omega (arith, few, some, fits) in
    elim c.match-read.branch [
      | in-Ok w ↦
          let o = w.in-Ok.ensures in let more = o.within in let f = w.count-is in let long : h + n ≤ length now = omega (arith, more, f) in
          let dl = length-drop h now in
          as_read _ _ _ _ _ _ _ w.read-is (record {
            bytes = take n (drop h now);
            moves = record {
              length_is = length-take-le n (drop h now) (omega (arith, dl, long)) ∙ f;
              at_end = o.end;
              source = o.moved ∙ ap (λ j. unread (take j (drop h now)) (g.S.Source.seen c.read_after-read.new.source)) (sym f);
            };
            all = joins h n u room k1.new.self _ now c.mend.new.bytes k2.new.self _ within small long k1.ensures.after r.front m.same k2.ensures.after;
          })
      | in-Err w ↦
          let f = w.count-is in let l = r.long in
          let la = length-append k1.new.self (drop h c.args.bytes.now) in let ld = length-drop h c.args.bytes.now in
          let lk = ap length k1.ensures.after in let lt = length-take-le h room small in let lo = c.requires.long in
          let long : h + n ≤ length now = omega (arith, l, la, ld, lk, lt, lo, few, some, f) in
          let none : u ≡ 0 = omega (arith, within, f, few) in
          as_read _ _ _ _ _ _ _ (w.read-is ∙ w.in-Err.is) (
            w.in-Err.ensures.failed,
            ap (λ j. take j c.mend.new.bytes) none,
            stays h n u room k1.new.self _ now c.mend.new.bytes k2.new.self _ within small long k1.ensures.after r.front m.same k2.ensures.after f none,
          )
    ]
