-- Where the bytes of a value lie, and where a closed map does.
use Rattle.std.specs.Prelude.{ℕ, ◌≤◌, ⊤, List, take}
use Rattle.std.specs.Arc.{arc_value}
use Rattle.chm.specs.Headline.{QuietView}
use Rattle.facing_maps.specs.declared.closed.Owner.{Owner}
use Rattle.facing_maps.specs.declared.closed.Owner.TheVariants.{One, Several}
use Rattle.facing_maps.specs.declared.shared.Place.{Place}
use Rattle.facing_maps.specs.declared.shared.Place.TheVariants.{Inline, UpTo32, UpTo40, UpTo48, UpTo64, UpTo80, UpTo96}
use Rattle.facing_maps.specs.declared.shared.Place.TheVariants.{UpTo112, UpTo128, UpTo144, UpTo160, UpTo192, UpTo224}
use Rattle.facing_maps.specs.declared.shared.Place.TheVariants.{UpTo256, UpTo320, Longer}

abbrev pub bytes_at : Place → List ℕ
bytes_at (Inline short) = short
bytes_at (UpTo32 len block) = take len (arc_value block)
bytes_at (UpTo40 len block) = take len (arc_value block)
bytes_at (UpTo48 len block) = take len (arc_value block)
bytes_at (UpTo64 len block) = take len (arc_value block)
bytes_at (UpTo80 len block) = take len (arc_value block)
bytes_at (UpTo96 len block) = take len (arc_value block)
bytes_at (UpTo112 len block) = take len (arc_value block)
bytes_at (UpTo128 len block) = take len (arc_value block)
bytes_at (UpTo144 len block) = take len (arc_value block)
bytes_at (UpTo160 len block) = take len (arc_value block)
bytes_at (UpTo192 len block) = take len (arc_value block)
bytes_at (UpTo224 len block) = take len (arc_value block)
bytes_at (UpTo256 len block) = take len (arc_value block)
bytes_at (UpTo320 len block) = take len (arc_value block)
bytes_at (Longer bytes) = (arc_value bytes).items

-- no more bytes than a block has
abbrev pub IsPlace : Place → Type 0
IsPlace (Inline _) = ⊤
IsPlace (UpTo32 len _) = len ≤ 32
IsPlace (UpTo40 len _) = len ≤ 40
IsPlace (UpTo48 len _) = len ≤ 48
IsPlace (UpTo64 len _) = len ≤ 64
IsPlace (UpTo80 len _) = len ≤ 80
IsPlace (UpTo96 len _) = len ≤ 96
IsPlace (UpTo112 len _) = len ≤ 112
IsPlace (UpTo128 len _) = len ≤ 128
IsPlace (UpTo144 len _) = len ≤ 144
IsPlace (UpTo160 len _) = len ≤ 160
IsPlace (UpTo192 len _) = len ≤ 192
IsPlace (UpTo224 len _) = len ≤ 224
IsPlace (UpTo256 len _) = len ≤ 256
IsPlace (UpTo320 len _) = len ≤ 320
IsPlace (Longer _) = ⊤

abbrev pub quiet_of : {K V F : Type 0} → Owner K V F → QuietView K V F
quiet_of (One quiet) = quiet
quiet_of (Several shared) = arc_value shared
