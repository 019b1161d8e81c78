-- The host's PAC function.
use Rattle.pa_pac.specs.Functions.{sip_value}
use Rattle.pa_pac.specs.Signing.{Code}

-- SipHash-2-4 under the key 00 01 .. 0f
abbrev pub host_code : Code
host_code = sip_value 0x0706050403020100 0x0f0e0d0c0b0a0908
