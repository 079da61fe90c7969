-- What holds of each filter.
use Rattle.node_table.specs.Filters.{IsFilter}
use Rattle.shaper_iir.specs.Filter.{Filter}
use Rattle.shaper_iir.specs.declared.iir.Iir.TheInside.{Inside}

abbrev pub filter_of : Inside → Filter
filter_of s = record { forward = s.forward; back = s.back; channels = s.channels.items }

abbrev pub IsSound : Inside → Type 0
IsSound s = IsFilter s.forward s.back
