-- Facts about the commands that tests write.
use Rattle.std.proofs.Common.{◌≢◌, negsuc, pos}

-- forwards by 25 and backwards by 50 are not the marker
pub forwards : pos 25 ≢ negsuc 127
forwards e = let no : ⊥ = cc in no

pub backwards : negsuc 49 ≢ negsuc 127
backwards e = let no : ⊥ = cc in no
