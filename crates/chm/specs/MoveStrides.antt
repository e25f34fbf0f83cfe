-- The strides of a move, by the map's form.
use Rattle.transfer.specs.Views.{StridesView}
use Rattle.chm.specs.declared.resize.move_strides.Kind.{Kind}
use Rattle.chm.specs.declared.resize.move_strides.Kind.TheVariants.{Once, Shared}

abbrev pub strides_of : {A : Type 0} → Kind A → StridesView
strides_of (Once strides) = strides
strides_of (Shared strides) = strides
