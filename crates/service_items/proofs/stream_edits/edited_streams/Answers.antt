use Rattle.std.proofs.Common.{map, None, Some, sym, ◌∙◌, ap}
use Rattle.std.specs.List.{list_any}
use Rattle.std.specs.Prelude.{if◌then◌else◌}
use Rattle.ts_si.specs.SiTables.{stream_item}
use Rattle.service_items.specs.ServiceItems
use Rattle.service_items.specs.ServiceItems.{stream_left, stream_lists}
use Rattle.service_items.proofs.ItemLemmas.{any-map}
use Rattle.service_items.proofs.stream_edits.edited_streams.Goals as goal

pub returns-then-not-one_lists : goal.returns-then-not-one_lists
returns-then-not-one_lists c =
    let services = c.args.services.now in
    let stream = c.in-Some.stream in
    let items = map stream_item c.args.streams in
    let lists = sym c.if-not-one_lists.true ∙ c.one_lists.ensures ∙ ap (λ all. list_any (λ entry. stream_lists services stream (stream_item entry)) all) c.as_slice.ensures
    ∙ any-map (stream_lists services stream) stream_item c.args.streams in
    ap (λ b. if b then Some (map (stream_left services c.args.number stream) items) else None) lists
    ∙ ap (λ told. ServiceItems.edited_streams services c.args.number told items) (sym c.in-Some.is)

pub returns : goal.returns
returns c =
    let services = c.args.services.now in
    let stream = c.in-Some.stream in
    let items = map stream_item c.args.streams in
    let lists = sym c.if-not-one_lists.false ∙ c.one_lists.ensures ∙ ap (λ all. list_any (λ entry. stream_lists services stream (stream_item entry)) all) c.as_slice.ensures
    ∙ any-map (stream_lists services stream) stream_item c.args.streams in
    ap (λ all. Some (map stream_item all)) c.of.ensures
    ∙ ap Some (c.in_ok-left.ensures ∙ ap (λ all. map (stream_left services c.args.number stream) (map stream_item all)) c.into_vec.ensures)
    ∙ ap (λ b. if b then Some (map (stream_left services c.args.number stream) items) else None) lists
    ∙ ap (λ told. ServiceItems.edited_streams services c.args.number told items) (sym c.in-Some.is)
