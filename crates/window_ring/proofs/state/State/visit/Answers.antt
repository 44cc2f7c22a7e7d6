use Rattle.std.proofs.Common.{◌+◌, take, drop, length-take-le, refl, arith}
use Rattle.chain_core.specs.ChainRun.{state_after}
use Rattle.window_ring.specs.Hands.{row_of}
use Rattle.window_ring.proofs.Visiting.{may_visit}
use Rattle.window_ring.proofs.Handover.{promised, cut_of, goes_after, goes_in, told, no_less, waits, own_low, comes_after, same_land, fits, took, handed}
use Rattle.window_ring.proofs.state.State.visit.Goals as goal

pub visit-news-requires : goal.visit-news-requires
visit-news-requires c = may_visit c.requires.0 c.args.self.now c.requires.1 c.args.hand.now c.args.stage c.args.done c.args.word c.requires.2

pub give-requires-clause-behind : goal.give-requires-clause-behind
give-requires-clause-behind c =
    let may = c.requires.2 in let hand = c.args.hand.now in let done = c.args.done in
    let p = promised may c.one_visit.ensures.changes c.news_promises.ensures.hold in
    let cut = cut_of may hand (row_of hand.at hand.land (take done hand.cells)) (row_of (hand.at + done) hand.land (drop done hand.cells)) c.len.result c.next_of-next.result refl refl refl c.len.ensures c.next_of-next.ensures in
    goes_after may p cut _ refl

pub give-requires-clause-fits : goal.give-requires-clause-fits
give-requires-clause-fits c =
    let may = c.requires.2 in let hand = c.args.hand.now in let done = c.args.done in
    let p = promised may c.one_visit.ensures.changes c.news_promises.ensures.hold in
    let cut = cut_of may hand (row_of hand.at hand.land (take done hand.cells)) (row_of (hand.at + done) hand.land (drop done hand.cells)) c.len.result c.next_of-next.result refl refl refl c.len.ensures c.next_of-next.ensures in
    let f = goes_in may p cut _ refl in let n = length-take-le done hand.cells may.done_within in omega (arith, f, n)

pub overflow_sub-more : goal.overflow_sub-more
overflow_sub-more c =
    let may = c.requires.2 in let hand = c.args.hand.now in let done = c.args.done in
    let p = promised may c.one_visit.ensures.changes c.news_promises.ensures.hold in
    let cut = cut_of may hand (row_of hand.at hand.land (take done hand.cells)) c.give.new.hand c.len.result c.next_of-next.result refl refl c.give.ensures.rest c.len.ensures c.next_of-next.ensures in
    no_less may p cut c.visit-news.result c.progress-before.result
    (c.visit-news.ensures.news (state_after c.requires.0.plan c.requires.1) (take done hand.cells) (length-take-le done hand.cells may.done_within)) c.progress-before.ensures

pub take_from-requires-clause-within : goal.take_from-requires-clause-within
take_from-requires-clause-within c =
    let may = c.requires.2 in let hand = c.args.hand.now in let done = c.args.done in
    let p = promised may c.one_visit.ensures.changes c.news_promises.ensures.hold in
    let cut = cut_of may hand (row_of hand.at hand.land (take done hand.cells)) c.give.new.hand c.len.result c.next_of-next.result refl refl c.give.ensures.rest c.len.ensures c.next_of-next.ensures in
    let t = told may p cut c.visit-news.result c.progress-before.result c.give.new.links.items _
    (c.visit-news.ensures.news (state_after c.requires.0.plan c.requires.1) (take done hand.cells) (length-take-le done hand.cells may.done_within)) c.progress-before.ensures c.give.ensures.link in
    waits may p cut t

pub take_from-requires-clause-low : goal.take_from-requires-clause-low
take_from-requires-clause-low c =
    let may = c.requires.2 in let hand = c.args.hand.now in let done = c.args.done in
    let p = promised may c.one_visit.ensures.changes c.news_promises.ensures.hold in
    let cut = cut_of may hand (row_of hand.at hand.land (take done hand.cells)) c.give.new.hand c.len.result c.next_of-next.result refl refl c.give.ensures.rest c.len.ensures c.next_of-next.ensures in
    let t = told may p cut c.visit-news.result c.progress-before.result c.give.new.links.items _
    (c.visit-news.ensures.news (state_after c.requires.0.plan c.requires.1) (take done hand.cells) (length-take-le done hand.cells may.done_within)) c.progress-before.ensures c.give.ensures.link in
    own_low may p cut t

pub take_from-requires-clause-behind : goal.take_from-requires-clause-behind
take_from-requires-clause-behind c =
    let may = c.requires.2 in let hand = c.args.hand.now in let done = c.args.done in
    let p = promised may c.one_visit.ensures.changes c.news_promises.ensures.hold in
    let cut = cut_of may hand (row_of hand.at hand.land (take done hand.cells)) c.give.new.hand c.len.result c.next_of-next.result refl refl c.give.ensures.rest c.len.ensures c.next_of-next.ensures in
    let t = told may p cut c.visit-news.result c.progress-before.result c.give.new.links.items _
    (c.visit-news.ensures.news (state_after c.requires.0.plan c.requires.1) (take done hand.cells) (length-take-le done hand.cells may.done_within)) c.progress-before.ensures c.give.ensures.link in
    comes_after may p cut t _ refl

pub take_from-requires-clause-same : goal.take_from-requires-clause-same
take_from-requires-clause-same c =
    let may = c.requires.2 in let hand = c.args.hand.now in let done = c.args.done in
    let p = promised may c.one_visit.ensures.changes c.news_promises.ensures.hold in
    let cut = cut_of may hand (row_of hand.at hand.land (take done hand.cells)) c.give.new.hand c.len.result c.next_of-next.result refl refl c.give.ensures.rest c.len.ensures c.next_of-next.ensures in
    let t = told may p cut c.visit-news.result c.progress-before.result c.give.new.links.items _
    (c.visit-news.ensures.news (state_after c.requires.0.plan c.requires.1) (take done hand.cells) (length-take-le done hand.cells may.done_within)) c.progress-before.ensures c.give.ensures.link in
    same_land may p cut t _ refl

pub take_from-requires-clause-fits : goal.take_from-requires-clause-fits
take_from-requires-clause-fits c =
    let may = c.requires.2 in let hand = c.args.hand.now in let done = c.args.done in
    let p = promised may c.one_visit.ensures.changes c.news_promises.ensures.hold in
    let cut = cut_of may hand (row_of hand.at hand.land (take done hand.cells)) c.give.new.hand c.len.result c.next_of-next.result refl refl c.give.ensures.rest c.len.ensures c.next_of-next.ensures in
    let t = told may p cut c.visit-news.result c.progress-before.result c.give.new.links.items _
    (c.visit-news.ensures.news (state_after c.requires.0.plan c.requires.1) (take done hand.cells) (length-take-le done hand.cells may.done_within)) c.progress-before.ensures c.give.ensures.link in
    let f = fits may p cut t _ refl in let n = took may p cut t _ refl in omega (arith, f, n)

pub returns : goal.returns
returns c = λ key history may.
    let hand = c.args.hand.now in let done = c.args.done in
    let cells = take done hand.cells in let many = length-take-le done hand.cells may.done_within in let s = state_after key.plan history in
    let p = promised may c.one_visit.ensures.changes c.news_promises.ensures.hold in
    let cut = cut_of may hand (row_of hand.at hand.land (take done hand.cells)) c.give.new.hand c.len.result c.next_of-next.result refl refl c.give.ensures.rest c.len.ensures c.next_of-next.ensures in
    let t = told may p cut c.visit-news.result c.progress-before.result c.give.new.links.items _ (c.visit-news.ensures.news s cells many) c.progress-before.ensures c.give.ensures.link in
    handed may p cut t _ refl _ c.take_from.new.hand _ c.take_from.ensures.rest c.give.ensures.link refl
    c.take_from.ensures.got c.visit-news.ensures.plan (c.visit-news.ensures.visited s cells many) refl
