-- The values of the fields of each struct, in the order of the rows of its page (ETSI EN 300 468, 6.2.13).
use Rattle.std.specs.Prelude.{List, [], ◌∷◌}
use Rattle.ts_fields.specs.Layout.{Held, number}
use Rattle.ts_descr_delivery.specs.declared.satellite.Satellite.{Satellite}
use Rattle.ts_descr_delivery.specs.declared.satellite.Beam.{Beam}
use Rattle.ts_descr_delivery.specs.declared.satellite.Signal.{Signal}
use Rattle.ts_descr_delivery.specs.declared.cable.Cable.{Cable}
use Rattle.ts_descr_delivery.specs.declared.terrestrial.Terrestrial.{Terrestrial}
use Rattle.ts_descr_delivery.specs.declared.terrestrial.Carriers.{Carriers}
use Rattle.ts_descr_delivery.specs.declared.terrestrial.Channel.{Channel}
use Rattle.ts_descr_delivery.specs.declared.terrestrial.Coding.{Coding}

-- how a satellite carries a transport stream
abbrev pub satellite_fields : Satellite → List Held
satellite_fields d =
    number d.frequency
    ∷ number d.orbital_position
    ∷ number d.west_east_flag
    ∷ number d.polarization
    ∷ number d.roll_off
    ∷ number d.modulation_system
    ∷ number d.modulation_type
    ∷ number d.symbol_rate
    ∷ number d.fec_inner
    ∷ []

-- how a cable carries a transport stream
abbrev pub cable_fields : Cable → List Held
cable_fields d =
    number d.frequency
    ∷ number d.fec_outer
    ∷ number d.modulation
    ∷ number d.symbol_rate
    ∷ number d.fec_inner
    ∷ []

-- how a terrestrial transmitter carries a transport stream
abbrev pub terrestrial_fields : Terrestrial → List Held
terrestrial_fields d =
    number d.centre_frequency
    ∷ number d.bandwidth
    ∷ number d.priority
    ∷ number d.time_slicing
    ∷ number d.mpe_fec
    ∷ number d.constellation
    ∷ number d.hierarchy
    ∷ number d.code_rate_hp
    ∷ number d.code_rate_lp
    ∷ number d.guard_interval
    ∷ number d.transmission_mode
    ∷ number d.other_frequency
    ∷ []

-- the first fields of a terrestrial transmitter: frequency, bandwidth, priority, time slicing and MPE-FEC
abbrev pub channel_fields : Channel → List Held
channel_fields d =
    number d.centre_frequency
    ∷ number d.bandwidth
    ∷ number d.priority
    ∷ number d.time_slicing
    ∷ number d.mpe_fec
    ∷ []

-- its next fields: constellation, hierarchy and code rates
abbrev pub coding_fields : Coding → List Held
coding_fields d =
    number d.constellation
    ∷ number d.hierarchy
    ∷ number d.code_rate_hp
    ∷ number d.code_rate_lp
    ∷ []

-- its last fields: guard interval, transmission mode and whether other frequencies are used
abbrev pub carriers_fields : Carriers → List Held
carriers_fields d =
    number d.guard_interval
    ∷ number d.transmission_mode
    ∷ number d.other_frequency
    ∷ []

-- the first fields of a satellite: frequency, position in orbit and polarization
abbrev pub beam_fields : Beam → List Held
beam_fields d =
    number d.frequency
    ∷ number d.orbital_position
    ∷ number d.west_east_flag
    ∷ number d.polarization
    ∷ []

-- its last fields: modulation, symbol rate and inner FEC
abbrev pub signal_fields : Signal → List Held
signal_fields d =
    number d.roll_off
    ∷ number d.modulation_system
    ∷ number d.modulation_type
    ∷ number d.symbol_rate
    ∷ number d.fec_inner
    ∷ []
