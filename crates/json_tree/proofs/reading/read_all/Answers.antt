use Rattle.std.proofs.Common.{◌≡◌, [], rules}
use Rattle.json.specs.Lex.{tokens}
use Rattle.json.specs.Json.{value}
use Rattle.serde_json.proofs.Nesting.{depth-read}
use Rattle.json_tree.proofs.Readings.{whole_read}
use Rattle.json_tree.proofs.reading.read_all.Goals as goal

pub returns-clause-nests : goal.returns-clause-nests
returns-clause-nests c =
    let over : c.read.new.reader ≡ [] = search rules in
    depth-read c.args.text.now _ (whole_read (value 127 (tokens c.args.text.now)) _ (rw (c.in_ok-reader.ensures.ok, over) at c.in_ok-value.ensures.ok))
