-- Lemmas on errors that are told one after another.
use Rattle.std.proofs.Common.{◌≡◌, ℕ, List, [], ◌∷◌, ◌++◌, length, ap, ap₂, sym, ◌∙◌, append-nil, map, Bool, if◌then◌else◌}
use Rattle.ts_packet.specs.declared.cell.Cell.{Cell}
use Rattle.ts_packet.specs.Header.{error_indicator_of, pid_of}
use Rattle.monitor_keys.specs.Keys.{KeyRule}
use Rattle.monitor_lines.specs.declared.detail.Detail.TheVariants.{OnPid, Scrambled}
use Rattle.monitor_lines.specs.declared.indicator.Indicator.TheVariants.{Pat, Transport}
use Rattle.monitor_lines.specs.declared.monitor_error.MonitorError.{MonitorError}
use Rattle.monitor_services.proofs.Naming.{told-then}
use Rattle.monitor_tables.specs.TableIds.{is_scrambled_pat}
use Rattle.monitor_priorities.specs.RowErrors.{here, scrambled_errors, table_errors, transport_errors}
use Rattle.monitor_priorities.specs.declared.table_kind.TableKind.{TableKind}

-- those of what is told with a packet, at its position
pub told-at : {A : Type 0} (tell : ℕ → A → MonitorError) (before after : List MonitorError) (at place : ℕ) (xs ys : List A) → at ≡ place → xs ≡ ys
    → after ≡ before ++ map (tell at) xs → after ≡ before ++ map (tell place) ys
told-at tell before after at place xs ys same are is = is ∙ ap₂ (λ n zs. before ++ map (tell n) zs) same are

-- and no more
told-last : (before after some : List MonitorError) → after ≡ before ++ some → after ≡ before ++ (some ++ [])
told-last before after some is = is ∙ ap (λ (es : List MonitorError). before ++ es) (sym (append-nil some))

-- of five rows, one after another
pub told-five : (e0 e1 e2 e3 e4 e5 s1 s2 s3 s4 s5 : List MonitorError) → e1 ≡ e0 ++ s1 → e2 ≡ e1 ++ s2 → e3 ≡ e2 ++ s3 → e4 ≡ e3 ++ s4 → e5 ≡ e4 ++ s5
    → e5 ≡ e0 ++ (s1 ++ (s2 ++ (s3 ++ (s4 ++ (s5 ++ [])))))
told-five e0 e1 e2 e3 e4 e5 s1 s2 s3 s4 s5 one two three four five =
    told-then e0 s1 (s2 ++ (s3 ++ (s4 ++ (s5 ++ [])))) e1 e5 one
    (told-then e1 s2 (s3 ++ (s4 ++ (s5 ++ []))) e2 e5 two
    (told-then e2 s3 (s4 ++ (s5 ++ [])) e3 e5 three
    (told-then e3 s4 (s5 ++ []) e4 e5 four
    (told-last e4 e5 s5 five))))

-- of six rows
pub told-six : (e0 e1 e2 e3 e4 e5 e6 s1 s2 s3 s4 s5 s6 : List MonitorError) → e1 ≡ e0 ++ s1 → e2 ≡ e1 ++ s2 → e3 ≡ e2 ++ s3 → e4 ≡ e3 ++ s4 → e5 ≡ e4 ++ s5
    → e6 ≡ e5 ++ s6 → e6 ≡ e0 ++ (s1 ++ (s2 ++ (s3 ++ (s4 ++ (s5 ++ (s6 ++ []))))))
told-six e0 e1 e2 e3 e4 e5 e6 s1 s2 s3 s4 s5 s6 one two three four five six =
    told-then e0 s1 (s2 ++ (s3 ++ (s4 ++ (s5 ++ (s6 ++ []))))) e1 e6 one
    (told-five e1 e2 e3 e4 e5 e6 s2 s3 s4 s5 s6 two three four five six)

-- of the row of a table, of this kind
pub told-kind : (rule : KeyRule) (history : List Cell) (packet : List ℕ) (before after : List MonitorError) (kind other : TableKind) → kind ≡ other
    → after ≡ before ++ table_errors kind rule history packet → after ≡ before ++ table_errors other rule history packet
told-kind rule history packet before after kind other same is = is ∙ ap (λ (k : TableKind). before ++ table_errors k rule history packet) same

-- ---- of single rows

-- a scrambled packet on PID 0
pub scrambled-told : (history : List Cell) (packet : List ℕ) (before after : List MonitorError) (at : ℕ) (is_one : Bool) → at ≡ length history → is_one ≡ is_scrambled_pat packet
    → after ≡ before ++ (if is_one then here Pat at Scrambled ∷ [] else []) → after ≡ before ++ scrambled_errors history packet
scrambled-told history packet before after at is_one same is told =
    told ∙ ap₂ (λ (n : ℕ) (b : Bool). before ++ (if b then here Pat n Scrambled ∷ [] else [])) same is

-- a packet with a transport_error_indicator
pub transport-told : (history : List Cell) (packet : List ℕ) (before after : List MonitorError) (at pid : ℕ) (is_one : Bool) → at ≡ length history → pid ≡ pid_of packet
    → is_one ≡ error_indicator_of packet → after ≡ before ++ (if is_one then here Transport at (OnPid pid) ∷ [] else []) → after ≡ before ++ transport_errors history packet
transport-told history packet before after at pid is_one same on is told =
    told
    ∙ (ap₂ (λ (n p : ℕ). before ++ (if is_one then here Transport n (OnPid p) ∷ [] else [])) same on
    ∙ ap (λ (b : Bool). before ++ (if b then here Transport (length history) (OnPid (pid_of packet)) ∷ [] else [])) is)

-- what is found on the PID of a packet
pub told-on : {A : Type 0} (tell : ℕ → ℕ → A → MonitorError) (before after : List MonitorError) (at place pid on : ℕ) (xs ys : List A) → at ≡ place → pid ≡ on → xs ≡ ys
    → after ≡ before ++ map (tell at pid) xs → after ≡ before ++ map (tell place on) ys
told-on tell before after at place pid on xs ys same same_pid are is =
    is ∙ (ap₂ (λ n p. before ++ map (tell n p) xs) same same_pid ∙ ap (λ zs. before ++ map (tell place on) zs) are)
