-- The fields that are there, group after group.
use Rattle.std.proofs.Common.{◌≡◌, ℕ, ◌+◌, ◌<◌, List, ◌++◌, length, drop, get_or, sym, ap, ◌∙◌, append_assoc}
use Rattle.std.specs.Prelude.{[], if◌then◌else◌, option_map}
use Rattle.std.proofs.lemmas.List.{drop_more}
use Rattle.ts_fields.specs.Layout.{Row, Held, rows_of}
use Rattle.ts_groups.specs.declared.group.FieldGroup.{FieldGroup}
use Rattle.ts_groups.specs.Groups.{chosen, condition, groups_in, is_there}

-- the fields of a group of the code, if it is there
abbrev pub rows_by : List Held → FieldGroup → List Row
rows_by values g = if is_there (option_map condition g.when) values then rows_of g.rows.now else []

-- after a group, its fields are there
pub groups_go_on : (groups : List FieldGroup) (i : ℕ) (d : FieldGroup) (values : List Held) (before after whole : List Row)
    → i < length groups → d ≡ get_or groups i d → after ≡ before ++ rows_by values d
    → before ++ chosen (groups_in (drop i groups)) values ≡ whole
    → after ++ chosen (groups_in (drop (i + 1) groups)) values ≡ whole
groups_go_on groups i d values before after whole inside same is so_far =
    let rest = chosen (groups_in (drop (i + 1) groups)) values in
    ap (λ l. l ++ rest) is ∙ append_assoc before (rows_by values d) rest
    ∙ ap (λ g. before ++ (rows_by values g ++ rest)) same
    ∙ sym (ap (λ l. before ++ chosen (groups_in l) values) (drop_more groups i d inside)) ∙ so_far
