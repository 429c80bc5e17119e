-- What the last backward cell changed. (Document 02, L9.)
use Rattle.std.specs.Prelude.{◌%◌, ◌^◌, ℤ, pos, ◌-ℤ◌}
use Rattle.connection.specs.Parts.{Change, changed}

-- the new rate minus the old one: below 0 where it fell
unfoldable pub difference : Change → ℤ
difference x = pos x.after -ℤ pos x.before

-- both rates brought below 2^42, which is above every rate; that changes none of a table that calls made
abbrev pub as_rates : Change → Change
as_rates x = changed (x.before % 2 ^ 42) (x.after % 2 ^ 42)
