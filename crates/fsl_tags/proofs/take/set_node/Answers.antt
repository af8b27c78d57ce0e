use Rattle.std.proofs.Common.{refl, ◌∙◌, arith}
use Rattle.fsl_table.proofs.Outcomes.{four_ok, always_ok}
use Rattle.fsl_tags.specs.Laid.{AreLaid}
use Rattle.fsl_tags.proofs.Ends.{no_success}
use Rattle.fsl_tags.proofs.Nodes.{put_laid, put_root, put_even, put_right, put_lone, put_one}
use Rattle.fsl_tags.proofs.Renewal.{up-rises}
use Rattle.fsl_tags.proofs.take.set_node.Goals as goal

pub unlink-requires : goal.unlink-requires
unlink-requires g c = c.requires.right.laid.ordered

pub returns-in_err-unlink : goal.returns-in_err-unlink
returns-in_err-unlink g c =
    let r = c.from_residual.result in
    let is = c.from_residual.ensures.1 in record {
      right = no_success r _ is _;
      facts = no_success r _ is _;
      noted = no_success r _ is _;
      facts_was = refl;
      children_was = c.unlink.ensures.was;
      rows_was = refl;
      more = λ lone free. omega arith;
      touches = λ lone free.
          (let old = c.parent_of-old.ensures.cost in
          let none = c.unlink.ensures.none (c.parent_of-old.ensures.parent ∙ lone) in omega (arith, old, none));
      back = λ lone free. (let none = c.unlink.ensures.none_back (c.parent_of-old.ensures.parent ∙ lone) in omega (arith, none));
    }

pub link-requires : goal.link-requires
link-requires g c = c.in_ok-unlink.ensures.ordered

pub returns-in_err-link : goal.returns-in_err-link
returns-in_err-link g c =
    let r = c.from_residual-in_err-link.result in
    let is = c.from_residual-in_err-link.ensures.1 in record {
      right = no_success r _ is _;
      facts = no_success r _ is _;
      noted = no_success r _ is _;
      facts_was = refl;
      children_was = c.link.ensures.was ∙ c.unlink.ensures.was;
      rows_was = refl;
      more = λ lone free. omega arith;
      touches = λ lone free.
          (let old = c.parent_of-old.ensures.cost in
          let none = c.in_ok-unlink.ensures.none (c.parent_of-old.ensures.parent ∙ lone) in
          let most = c.link.ensures.most in omega (arith, old, none, most));
      back = λ lone free.
          (let none = c.in_ok-unlink.ensures.none_back (c.parent_of-old.ensures.parent ∙ lone) in
          let link = c.link.ensures.back in omega (arith, none, link));
    }

pub put-requires : goal.put-requires
put-requires g c = refl

pub returns-in_err-put : goal.returns-in_err-put
returns-in_err-put g c =
    let r = c.from_residual-in_err-put.result in
    let is = c.from_residual-in_err-put.ensures.1 in record {
      right = no_success r _ is _;
      facts = no_success r _ is _;
      noted = no_success r _ is _;
      facts_was = c.put.ensures.was;
      children_was = c.link.ensures.was ∙ c.unlink.ensures.was;
      rows_was = refl;
      more = λ lone free. omega arith;
      touches = λ lone free.
          (let old = c.parent_of-old.ensures.cost in
          let none = c.in_ok-unlink.ensures.none (c.parent_of-old.ensures.parent ∙ lone) in
          let most = c.in_ok-link.ensures.most in
          let cost = c.put.ensures.cost in omega (arith, old, none, most, cost));
      back = λ lone free.
          (let none = c.in_ok-unlink.ensures.none_back (c.parent_of-old.ensures.parent ∙ lone) in
          let link = c.in_ok-link.ensures.back in
          let put = c.put.ensures.back in omega (arith, none, link, put));
    }

pub renew-requires : goal.renew-requires
renew-requires g c =
    let facts = c.args.graph.now.facts.held.entries in
    let then = c.put.new.self.held.entries in
    let children = c.args.graph.now.children.held.entries in
    let own = c.args.own.now.held.entries in
    let rows = c.args.flow.now.rows.held.entries in
    let was = c.requires.right in
    let put = c.in_ok-put.ensures.ok in record {
      laid =
          put_laid c.args.name c.args.node facts then children own rows was put c.unlink.new.self.held.entries c.link.new.self.held.entries c.parent_of-old.result c.args.node.parent c.parent_of-old.ensures.parent refl
          c.in_ok-link.ensures.ordered c.in_ok-unlink.ensures.pairs c.in_ok-link.ensures.pairs;
      full = was.full;
      above = up-rises facts own rows was.laid.rise was.right c.parent_of-above.result;
      root = put_root c.args.name c.args.node facts then children own rows was put c.parent_of-above.result c.parent_of-above.ensures.parent c.requires.before;
      even = put_even c.args.name c.args.node facts then children own rows was put;
    }

pub returns : goal.returns
returns g c =
    let facts = c.args.graph.now.facts.held.entries in
    let then = c.put.new.self.held.entries in
    let children = c.args.graph.now.children.held.entries in
    let links = c.link.new.self.held.entries in
    let own = c.args.own.now.held.entries in
    let rows = c.args.flow.now.rows.held.entries in
    let was = c.requires.right in
    let put = c.in_ok-put.ensures.ok in
    let laid : AreLaid then links own =
    put_laid c.args.name c.args.node facts then children own rows was put c.unlink.new.self.held.entries links c.parent_of-old.result c.args.node.parent c.parent_of-old.ensures.parent refl
    c.in_ok-link.ensures.ordered c.in_ok-unlink.ensures.pairs c.in_ok-link.ensures.pairs in record {
      right = four_ok c.renew.result (put_right c.args.name c.args.node facts then children own rows was put links c.renew.new.flow.rows.held.entries laid) c.renew.ensures.full c.renew.ensures.each c.renew.ensures.root c.renew.ensures.even;
      facts = always_ok c.renew.result put;
      noted = c.renew.ensures.noted;
      facts_was = c.put.ensures.was;
      children_was = c.link.ensures.was ∙ c.unlink.ensures.was;
      rows_was = c.renew.ensures.was;
      more = λ lone free. c.renew.ensures.more (put_lone c.args.name c.args.node facts then children own rows was put links laid free);
      touches = λ lone free.
          (let one = put_one c.args.name c.args.node facts then children own rows was put links laid free in
          let touches = c.renew.ensures.touches (put_lone c.args.name c.args.node facts then children own rows was put links laid free) in
          let old = c.parent_of-old.ensures.cost in
          let none = c.in_ok-unlink.ensures.none (c.parent_of-old.ensures.parent ∙ lone) in
          let link = c.in_ok-link.ensures.most in
          let cost = c.in_ok-put.ensures.cost in
          let above = c.parent_of-above.ensures.cost in omega (arith, one, touches, old, none, link, cost, above));
      back = λ lone free.
          (let renewed = c.renew.ensures.back (put_lone c.args.name c.args.node facts then children own rows was put links laid free) in
          let none = c.in_ok-unlink.ensures.none_back (c.parent_of-old.ensures.parent ∙ lone) in
          let link = c.in_ok-link.ensures.back in
          let put_back = c.in_ok-put.ensures.back in omega (arith, renewed, none, link, put_back));
    }
