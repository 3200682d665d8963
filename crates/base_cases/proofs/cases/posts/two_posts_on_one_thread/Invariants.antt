use Rattle.base_cases.proofs.cases.posts.two_posts_on_one_thread.Given as goal

abbrev pub ghosts-run_by_hand : goal.ghosts-run_by_hand
ghosts-run_by_hand g a = record { script = a.script.now }
