use Rattle.keyseal.proofs.till.keyseal_publish_coins.Goals as goal

pub returns : goal.returns
returns c =
    let done = c.keyseal_publish.ensures in
    record {
      secret_wiped = done.secret_wiped;
      product_wiped = done.product_wiped;
      answer = simp c.alone.ensures at done.answer;
    }
