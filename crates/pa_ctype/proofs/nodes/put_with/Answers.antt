use Rattle.std.proofs.Common.{◌≡◌, ◌∙◌, ap, arith, sym, length}
use Rattle.indexmap.specs.IndexMap.{keys, values}
use Rattle.std.proofs.lemmas.Map.Entries.{length-keys_of}
use Rattle.pa_ctype.specs.Nodes.{at}
use Rattle.pa_ctype.proofs.NodeTable.{table_push, new_bare, new_is, grown_push, values_beside, each_push}
use Rattle.pa_ctype.proofs.nodes.put_with.Goals as goal

pub returns-clause-table : goal.returns-clause-table
returns-clause-table c =
    let ns = keys c.args.nodes.now in
    let count : c.len-number.result ≡ length ns = c.len-number.ensures.len ∙ sym (length-keys_of c.args.nodes.now.entries) in
    let bare = new_bare ns c.args.node c.args.bare c.len-number.result c.unwrap_or.result c.requires.bare count c.unwrap_or.ensures in
    table_push ns (values c.args.nodes.now) c.args.node c.requires.table c.requires.below c.requires.proper c.in_default.ensures.place _
    (record { depth = c.depth.ensures.depth; shallow = c.depth.ensures.shallow; bare_before = bare.0; bare_is = bare.1; extent = c.extent.ensures })
    (values_beside c.args.nodes.now.entries) (let few = c.requires.few in omega arith) _ _ c.add.ensures.keys c.add.ensures.values

pub returns-clause-is : goal.returns-clause-is
returns-clause-is c =
    let ns = keys c.args.nodes.now in
    let count : c.len-number.result ≡ length ns = c.len-number.ensures.len ∙ sym (length-keys_of c.args.nodes.now.entries) in
    ap (at (keys c.add.new.nodes)) count ∙ new_is ns (values c.args.nodes.now) c.args.node c.requires.table c.requires.below c.requires.proper _ c.add.ensures.keys

pub returns-clause-grown : goal.returns-clause-grown
returns-clause-grown c = grown_push (keys c.args.nodes.now) (values c.args.nodes.now) c.args.node c.requires.table c.requires.below c.requires.proper _ c.add.ensures.keys

pub returns-clause-each : goal.returns-clause-each
returns-clause-each c p inherited h e = each_push p (keys c.args.nodes.now) (keys c.add.new.nodes) c.args.node c.add.ensures.keys h e
