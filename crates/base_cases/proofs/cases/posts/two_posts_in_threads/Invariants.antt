use Rattle.base_cases.proofs.cases.posts.two_posts_in_threads.Given as goal

abbrev pub ghosts-run_in_threads : goal.ghosts-run_in_threads
ghosts-run_in_threads g a = record { script = a.script.now }
