-- The rule of `rmorphan`. This project's own rule, over the PIDs that tables refer to.
use Rattle.std.specs.Prelude.{ℕ, ◌+◌, ◌-◌, nat_lt, List, [], ◌∷◌, ◌++◌, length, take, slice_get, Bool, Option, None, Some, if◌then◌else◌}
use Rattle.ts_packet.specs.declared.labelled.Labelled.{Labelled}
use Rattle.ts_packet.specs.Header.{pid_of}
use Rattle.ts_packet.specs.LiveRows.{packets_in}
use Rattle.chain_model.specs.PluginRule.{PluginRule}
use Rattle.plug_psi.specs.Referred.{refers}
use Rattle.plug_window.specs.DelayRule.{delay_rule}
use Rattle.plug_window.specs.declared.window_conf.WindowConf.{WindowConf}

-- the item, if there is one and it passes a test
abbrev pub picked : {X : Type 0} → (X → Bool) → Option X → Option X
picked test None = None
picked test (Some x) = if test x then Some x else None

-- the output with `x`, given the items that came before it: nothing with the first `n`, and then the item `n` before
-- it, if it is to be kept given all items up to `x`
abbrev pub delayed : {X : Type 0} → (List X → X → Bool) → ℕ → List X → X → Option X
delayed keeps n before x =
    if nat_lt (length before) n then None
    else picked (keeps (before ++ x ∷ [])) (slice_get (before ++ x ∷ []) (length before - n))

-- packets refer to the PID of a row's packet
abbrev pub refers_to : List (List ℕ) → Labelled → Bool
refers_to packets row = refers packets (pid_of row.packet)

-- rows refer to the PID of a row's packet
abbrev pub is_referred : List Labelled → Labelled → Bool
is_referred rows row = refers_to (packets_in rows) row

-- each packet is output a window later, if its PID is referred to by then
abbrev pub rmorphan_rule : WindowConf → PluginRule
rmorphan_rule conf = delay_rule conf.stuffing (delayed is_referred conf.window)

-- of packets of which the first has the number `i` among all: those whose PID the first i + n + 1 of all refer to
abbrev pub kept_packets : ℕ → List (List ℕ) → ℕ → List (List ℕ) → List (List ℕ)
kept_packets n all i [] = []
kept_packets n all i (packet ∷ packets) =
    if refers (take (i + n + 1) all) (pid_of packet)
    then packet ∷ kept_packets n all (i + 1) packets
    else kept_packets n all (i + 1) packets
