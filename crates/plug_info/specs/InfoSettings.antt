-- Valid settings of `info`. This project's own rule.
use Rattle.plug_info.specs.declared.info_conf.InfoConf.{InfoConf}

-- both values of its setting are valid
abbrev pub IsValidInfo : InfoConf → Type 0
IsValidInfo c = Unit {0}
