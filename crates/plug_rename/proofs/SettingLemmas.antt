-- The settings of an `sdt` by those of a `svrename`.
use Rattle.std.proofs.Common.{◌≡◌, ℕ, ◌<◌, ◌&&◌, ◌||◌, Bool, true, false, not, List, Option, refl, sym, ap, ap₂, ◌∙◌, subst}
use Rattle.std.specs.Option.{ForSome}
use Rattle.std.specs.Prelude.{None, codes, is_some, unwrap_or}
use Rattle.clap.specs.Walk.{Row}
use Rattle.std.proofs.lemmas.List.Elements.{All-nil}
use Rattle.plugin_options.specs.Options.{has_value, value_of}
use Rattle.plug_edit.specs.SdtSettings.{IsValidSdt, changes_service}
use Rattle.plug_rename.specs.RenameSettings.{IsValidRename, changes, texts_for}
use Rattle.plug_rename.specs.RenameWords.{conf_of, is_change_given}
use Rattle.plug_rename.specs.declared.rename_conf.RenameConf.{RenameConf}

named : (b : Bool) → (not (b && false) && true) ≡ true
named true = refl
named false = refl

-- settings with the same fields
pub same-fields :
    {s s' : ℕ} {i i' : Option ℕ} {n n' p p' : Option (List ℕ)} → s ≡ s' → i ≡ i' → n ≡ n' → p ≡ p' → conf_of s i n p ≡ conf_of s' i' n' p'
same-fields es ei en ep = cc (es, ei, en, ep)

-- something changes where it was given
pub changes-given :
    (service : ℕ) (id : Option ℕ) (name provider : Option (List ℕ)) (found : List Row) → is_some id ≡ has_value (codes "id") found →
    name ≡ value_of (codes "name") found → provider ≡ value_of (codes "provider") found → is_change_given found ≡ true → changes (conf_of service id name provider) ≡ true
changes-given service id name provider found i n p given =
    ap₂ (λ a b. a || (b || is_some provider)) i (ap is_some n)
    ∙ (ap (λ b. has_value (codes "id") found || (has_value (codes "name") found || b)) (ap is_some p) ∙ given)

-- and so it is where all is given that has to be
pub second : (a b : Bool) → (a && b) ≡ true → b ≡ true
second true b e = e
second false b e = cc

-- of a number that is not given nothing is asked
none-given : (P : ℕ → Type 0) → ForSome None P
none-given P number is = cc

-- they are valid
pub valid-texts : (conf : RenameConf) → IsValidRename conf → IsValidSdt conf.texts
valid-texts conf valid = subst IsValidSdt (sym valid.texts) (record {
  removed = All-nil (λ pair. pair.1 < 65536);
  service = λ number is. subst (λ given. unwrap_or given 0 < 65536) is valid.service.1;
  type = none-given (λ type. type < 256);
  running = none-given (λ status. status < 8);
  scrambled = none-given (λ mode. mode < 2);
  version = none-given (λ version. version < 32);
  together = named (changes_service (texts_for conf.service conf.texts.name conf.texts.provider));
})
