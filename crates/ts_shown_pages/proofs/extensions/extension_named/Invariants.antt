use Rattle.std.proofs.Common.{◌≡◌, drop}
use Rattle.ts_shown_pages.specs.Extensions.{extension_of}
use Rattle.ts_shown_pages.proofs.NamedLemmas.{first_named}
use Rattle.ts_shown_pages.proofs.extensions.extension_named.Given as goal

-- what is looked for is found among the tags that are left
abbrev pub invariant-loop-tag : goal.invariant-loop-tag
invariant-loop-tag l = first_named extension_of l.name (drop l.tag-index l.tag-items) ≡ first_named extension_of l.name l.tag-items
