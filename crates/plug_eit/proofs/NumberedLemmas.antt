-- Where the service is given by its number, the packets on one PID say all.
use Rattle.std.proofs.Common.{◌≡◌, ℕ, ◌==◌, ◌&&◌, Bool, true, false, List, [], ◌∷◌, ◌++◌, Option, Some, refl, ◌∙◌, ap, cond}
use Rattle.std.specs.List.{list_any}
use Rattle.ts_packet.specs.declared.cell.Cell.{Cell}
use Rattle.ts_packet.specs.Cells.{live_packets}
use Rattle.ts_packet.specs.Header.{pid_of}
use Rattle.ts_demux.specs.TablesOn.{packets_on}
use Rattle.plugin_trait.specs.Finding.{finds_none}
use Rattle.section_flow.specs.Flow.{Edit, alters, completed_by, replaced}
use Rattle.named_services.specs.declared.service_word.ServiceWord.{ServiceWord}
use Rattle.named_services.specs.declared.service_word.ServiceWord.TheVariants.{Number}
use Rattle.followed_services.specs.ServiceNumbers.{number_after}
use Rattle.plug_eit.specs.EitEdit.{edited_section}
use Rattle.plug_eit.specs.EitRule.{eit_edit, eit_rule, finds_altered, is_eit, made_of}
use Rattle.plug_eit.specs.OnePid.{eit_packets, numbered_edit, numbered_finds, numbered_made}
use Rattle.plug_eit.specs.declared.eit_conf.EitConf.{EitConf}
use Rattle.plug_eit.specs.declared.numbers.TheConstants.{EIT_PID}

module _ (conf : EitConf) (id : ℕ) (is : conf.service ≡ Number id) (itself : (n : ℕ) (packets : List (List ℕ)) → number_after (Number n) packets ≡ Some n) where
  same-number : (met : List (List ℕ)) → number_after conf.service met ≡ Some id
  same-number met = ap (λ (word : ServiceWord). number_after word met) is ∙ itself id met

  same-edit : eit_edit conf ≡ numbered_edit conf id
  same-edit = λ i met. edited_section conf (same-number met i)

  pub made-numbered : ((pid : ℕ) (now : List ℕ → Option (List ℕ)) (met : List (List ℕ)) (packet : List ℕ) → (pid_of packet == pid) ≡ true → replaced pid (λ _. now) met packet ≡ replaced pid (λ _. now) (packets_on pid met) packet)
      → (history : List Cell) (packet : List ℕ) → made_of conf (live_packets history) packet ≡ numbered_made conf id history packet
  made-numbered law history packet = by (is_eit packet) refl
    where
      by : (b : Bool) → is_eit packet ≡ b
          → cond b (replaced EIT_PID (eit_edit conf) (live_packets history) packet) packet ≡ cond b (replaced EIT_PID (numbered_edit conf id) (eit_packets history) packet) packet
      by true e =
          ap (λ (edit : Edit). replaced EIT_PID edit (live_packets history) packet) same-edit
          ∙ law EIT_PID (edited_section conf (Some id)) (live_packets history) packet e
      by false e = refl

  module _ (law : (pid : ℕ) (met : List (List ℕ)) (packet : List ℕ) → (pid_of packet == pid) ≡ true → completed_by pid met packet ≡ completed_by pid (packets_on pid met) packet) where
    finds-numbered : (history : List Cell) (packet : List ℕ) (labels : ℕ) → finds_altered conf history packet labels ≡ numbered_finds conf id history packet labels
    finds-numbered history packet labels = by (is_eit packet) refl
      where
        by : (b : Bool) → is_eit packet ≡ b
            → (b && list_any (alters (eit_edit conf (live_packets history ++ packet ∷ []))) (completed_by EIT_PID (live_packets history) packet))
            ≡ (b && list_any (alters (edited_section conf (Some id))) (completed_by EIT_PID (eit_packets history) packet))
        by true e =
            ap (λ (edit : Edit). list_any (alters (edit (live_packets history ++ packet ∷ []))) (completed_by EIT_PID (live_packets history) packet)) same-edit
            ∙ ap (list_any (alters (edited_section conf (Some id)))) (law EIT_PID (live_packets history) packet e)
        by false e = refl

    pub fault-numbered : (history : List Cell) → (eit_rule conf).has_fault history ≡ finds_none (numbered_finds conf id) history
    fault-numbered history = ap (λ (test : List Cell → List ℕ → ℕ → Bool). finds_none test history) (λ i h p l. finds-numbered h p l i)
