-- The first record's notice is weighed against the choice of the rest.
use Rattle.std.proofs.Common.{◌≡◌, None, sym, ap, ◌∙◌, rules}
use Rattle.records.specs.Notices.{better, next_notice, notice_of}
use Rattle.records.proofs.Choice.{best}
use Rattle.records.proofs.Turns.{notice_none, notice_more}
use Rattle.records.proofs.notices.+next_notice.Goals as goal

pub returns-in-empty : goal.returns-in-empty
returns-in-empty t c =
    let e = sym (notice_none c.args.user.0 c.args.records.now (search rules)) in
    record { choice = e; best = best c.args.user.0 c.args.records.now None e }

pub returns-in-len1-up : goal.returns-in-len1-up
returns-in-len1-up t c =
    let e : c.better.result ≡ next_notice c.args.user.0 c.args.records.now =
    c.better.ensures
    ∙ ap (λ o. better o c.next_notice.result) (c.notice_of.ensures ∙ ap (notice_of _) c.news_for.ensures)
    ∙ ap (better _) c.next_notice.ensures.choice
    ∙ sym (notice_more c.args.user.0 c.args.records.now _ (search rules)) in
    record { choice = e; best = best c.args.user.0 c.args.records.now c.better.result e }
