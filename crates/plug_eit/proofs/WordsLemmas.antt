-- What the reader of the settings returns: settings by their fields, and what is broken where values do not go together.
use Rattle.std.proofs.Common.{◌≡◌, ◌∙◌, true, false, not, cond, ap, ap₂, Bool, List, ℕ, ℤ, Option, None, Some}
use Rattle.clap.specs.Walk.{Row}
use Rattle.plugin_options.specs.Options.{are_well_formed}
use Rattle.plugin_options.specs.OptionTable.{OptionTable, first_broken, tests_of_parsed}
use Rattle.named_services.specs.declared.service_word.ServiceWord.{ServiceWord}
use Rattle.plug_eit.specs.declared.eit_conf.EitConf.{EitConf}
use Rattle.plugin_options.specs.declared.words_rule.WordsRule.TheVariants.{Conflict, Missing, Value}

-- all is given that has to be, and each value has its form, but they do not go together
pub conflict_broken : {C : Type 0} (p : OptionTable C) (found : List Row) → p.has_needed found ≡ true → are_well_formed p.rows found ≡ true → p.go_together found ≡ false → first_broken (tests_of_parsed p found) ≡ Some Conflict
conflict_broken p found needed formed together =
    ap₂ (λ a b. cond (not a) (Some Missing) (cond (not b) (Some Value) (cond (not (p.go_together found)) (Some Conflict) None))) needed formed
    ∙ ap (λ c. cond (not c) (Some Conflict) None) together

abbrev pub conf_of : ServiceWord → Option ℕ → Option (List ℕ) → Option (List ℕ) → Option ℤ → Option ℕ → Option ℕ → Bool → EitConf
conf_of s e n t h r f m = record { service = s; event = e; name = n; text = t; shift = h; running_status = r; free_ca_mode = f; remove = m }

-- settings with the same fields
pub same_fields :
    {s s' : ServiceWord} {e e' : Option ℕ} {n n' t t' : Option (List ℕ)} {h h' : Option ℤ} {r r' f f' : Option ℕ} {m m' : Bool} →
    s ≡ s' → e ≡ e' → n ≡ n' → t ≡ t' → h ≡ h' → r ≡ r' → f ≡ f' → m ≡ m' → conf_of s e n t h r f m ≡ conf_of s' e' n' t' h' r' f' m'
same_fields es ee en et eh er ef em = cc (es, ee, en, et, eh, er, ef, em)
