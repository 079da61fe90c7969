-- The numbers that tell a node, as the code hands them.
use Rattle.script_ast.specs.declared.fields.Field.{Field}
use Rattle.script_json.specs.Numbers.{Number}
use Rattle.script_json.specs.Numbers as number
use Rattle.script_json.specs.declared.creations.Number.{Number as GivenNumber}
use Rattle.script_json.specs.declared.creations.Number.TheVariants as given

-- the number that the code's is
abbrev pub number_is : GivenNumber → Number
number_is (given.Fix z) = number.fix z
number_is (given.Count n) = number.count n
number_is (given.Fixes zs) = number.fixes zs.now

-- a field with its number
abbrev pub number_given : Field × GivenNumber → Field × Number
number_given one = (one.0, number_is one.1)
