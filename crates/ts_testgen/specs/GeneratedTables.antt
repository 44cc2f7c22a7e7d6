-- The four sections of the generated stream.
-- This project's own rule: transport stream 1 of network 1 has the services 1 and 2; versions are 0, tables are current.
-- Layouts: ISO/IEC 13818-1, 2.4.4.3 (PAT) and 2.4.4.8 (PMT); ETSI EN 300 468, 5.2.3 (SDT) and
-- 6.2.33 (service descriptor). Reserved bits are ones.
use Rattle.std.specs.Prelude.{ℕ, ◌+◌, ◌*◌, ◌/◌, ◌%◌, Bool, true, false, List, [], ◌∷◌, ◌++◌, length}
use Rattle.ts_section.specs.declared.long_head.LongHead.{LongHead}
use Rattle.ts_section.specs.WrittenSection.{long_section}

-- the head of the one section of a table
abbrev pub only_head : ℕ → Bool → ℕ → LongHead
only_head table_id «private» extension =
    record {
      table_id = table_id;
      private = «private»;
      extension = extension;
      version = 0;
      current = true;
      number = 0;
      last = 0;
    }

-- two bytes, highest first
abbrev pub two_bytes : ℕ → List ℕ
two_bytes n = n / 256 ∷ n % 256 ∷ []

-- three ones, and a PID
abbrev pub pid_bytes : ℕ → List ℕ
pid_bytes pid = two_bytes (0xE000 + pid)

-- four ones, and the length 0 of a descriptor loop
abbrev pub no_descriptors : List ℕ
no_descriptors = two_bytes 0xF000

-- an entry of the PAT
abbrev pub pat_entry : ℕ → ℕ → List ℕ
pat_entry service_id pid = two_bytes service_id ++ pid_bytes pid

-- a component without descriptors
abbrev pub component : ℕ → ℕ → List ℕ
component stream_type pid = stream_type ∷ pid_bytes pid ++ no_descriptors

-- the service descriptor, tag 0x48, of a service of type 1, with its provider and its name
abbrev pub service_descriptor : List ℕ → List ℕ → List ℕ
service_descriptor provider name =
    0x48 ∷ (3 + length provider + length name) ∷ 1 ∷ length provider ∷ provider ++ length name ∷ name

-- A service of the SDT: six ones and EIT flags 0; running_status 4, free_CA_mode 0, and the length of
-- its descriptors.
abbrev pub sdt_service : ℕ → List ℕ → List ℕ
sdt_service service_id descriptors =
    two_bytes service_id ++ 0xFC ∷ two_bytes (4 * 8192 + length descriptors) ++ descriptors

-- the text `test`
abbrev pub provider_text : List ℕ
provider_text = 0x74 ∷ 0x65 ∷ 0x73 ∷ 0x74 ∷ []

-- the text `one`
abbrev pub one_text : List ℕ
one_text = 0x6F ∷ 0x6E ∷ 0x65 ∷ []

-- the text `two`
abbrev pub two_text : List ℕ
two_text = 0x74 ∷ 0x77 ∷ 0x6F ∷ []

-- the PAT: services 1 on PID 4096 and 2 on PID 4097
abbrev pub pat_body : List ℕ
pat_body = pat_entry 1 4096 ++ pat_entry 2 4097

-- the section of the PAT
unfoldable pub pat_section : List ℕ
pat_section = long_section (only_head 0x00 false 1) pat_body

-- the PMT of service 1: PCR_PID 256, type 2 on PID 256 and type 3 on PID 257
abbrev pub first_pmt_body : List ℕ
first_pmt_body = pid_bytes 256 ++ no_descriptors ++ component 2 256 ++ component 3 257

-- the section of the PMT of service 1
unfoldable pub first_pmt_section : List ℕ
first_pmt_section = long_section (only_head 0x02 false 1) first_pmt_body

-- the PMT of service 2: PCR_PID 256, type 2 on PID 258 and type 3 on PID 259
abbrev pub second_pmt_body : List ℕ
second_pmt_body = pid_bytes 256 ++ no_descriptors ++ component 2 258 ++ component 3 259

-- the section of the PMT of service 2
unfoldable pub second_pmt_section : List ℕ
second_pmt_section = long_section (only_head 0x02 false 2) second_pmt_body

-- the SDT of the actual transport stream: network 1, and the services 1 and 2
abbrev pub sdt_body : List ℕ
sdt_body =
    two_bytes 1 ++ 0xFF ∷ sdt_service 1 (service_descriptor provider_text one_text)
    ++ sdt_service 2 (service_descriptor provider_text two_text)

-- the section of the SDT
unfoldable pub sdt_section : List ℕ
sdt_section = long_section (only_head 0x42 true 1) sdt_body
