use Rattle.std.proofs.Common.{rules}
use borrow.Author.Tests.{tests}
use Rattle.std.proofs.lemmas.Iterator.{YieldsList-from_slice}
use Rattle.std.proofs.lemmas.Iterator.Consumers.{YieldsList-from_copied, YieldsList-at}
use Rattle.std.proofs.lemmas.Iterator.Adapters.{option_map_id}
use Rattle.std.proofs.lemmas.Iterator.Search.{find_from_yields_List}
use Rattle.setfile.specs.Scan.{says}
use Rattle.setfile.specs.Shown.{field_name}
use Rattle.setfile.proofs.file.find_field.Goals as goal

pub returns : goal.returns
returns c =
    let e = find_from_yields_List (λ f. says (field_name f) c.args.name.now) _ _ c.find.result c.find.ensures.ran (YieldsList-from_copied (YieldsList-at c.copied.ensures.source (YieldsList-from_slice _ c.iter.ensures.rest))) (λ x b q k. search (rules, tests)) in
    rw option_map_id at e
