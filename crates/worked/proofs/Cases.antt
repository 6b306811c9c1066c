-- The runs on the record come out as document 01 says. A wrong row is refused at its own line, with the row and the place where it differs.
use mathlib.Core.Path.{refl}
use Rattle.lists.specs.Lists.{Every}
use Rattle.members.specs.Members.{ones_of}
use Rattle.timetable.specs.Search.{lean_member, naming}
use Rattle.timetable.specs.Table.{narrowed_by}
use Rattle.overloads.specs.Promise.{overload_said}
use Rattle.worked.specs.Rows.{Right}
use Rattle.worked.specs.Cases.{on_record}

pub cases : Every Right on_record
unfolding narrowed_by naming lean_member overload_said ones_of
cases = (
  refl,  -- 1
  (
    refl,  -- 2
    (
      refl,  -- 3
      (
        refl,  -- 4
        (
          refl,  -- 5
          (
            refl,  -- 6
            (
              refl,  -- 6
              (
                refl,  -- 7
                (
                  refl,  -- 7
                  (
                    refl,  -- 8
                    (
                      refl,  -- 9
                      (
                        refl,  -- 9
                        (
                          refl,  -- 10
                          (
                            refl,  -- 10
                            (
                              refl,  -- 11
                              (
                                refl,  -- 12
                                (
                                  refl,  -- 20
                                  (
                                    refl,  -- 21
                                    (
                                      refl,  -- 22
                                      (
                                        refl,  -- 23
                                        (
                                          refl,  -- 24
                                          (
                                            refl,  -- 26
                                            (
                                              refl,  -- 25
                                              (
                                                refl,  -- 30
                                                (
                                                  refl,  -- 31
                                                  (
                                                    refl,  -- 32
                                                    (
                                                      refl,  -- 33
                                                      (
                                                        refl,  -- 34
                                                        (
                                                          refl,  -- 35
                                                          (
                                                            refl,  -- 36
                                                            (
                                                              refl,  -- 37
                                                              (
                                                                refl,  -- 38
                                                                (
                                                                  refl,  -- 39
                                                                  (
                                                                    refl,  -- 40
                                                                    (
                                                                      refl,  -- 50
                                                                      (
                                                                        refl,  -- 51
                                                                        (
                                                                          refl,  -- 52
                                                                          (
                                                                            refl,  -- 53
                                                                            (
                                                                              refl,  -- 54
                                                                              (
                                                                                refl,  -- 55
                                                                                (
                                                                                  refl,  -- 60
                                                                                  (
                                                                                    refl,  -- 61
                                                                                    (
                                                                                      refl,  -- 62
                                                                                      (
                                                                                        refl,  -- 63
                                                                                        (
                                                                                          refl,  -- 70
                                                                                          (
                                                                                            refl,  -- 71
                                                                                            (
                                                                                              refl,  -- 72
                                                                                              (
                                                                                                refl,  -- 73
                                                                                                (
                                                                                                  refl,  -- 74
                                                                                                  (
                                                                                                    refl,  -- 75
                                                                                                    (
                                                                                                      refl,  -- 76
                                                                                                      (
                                                                                                        refl,  -- 77
                                                                                                        (
                                                                                                          refl,  -- 78
                                                                                                          (
                                                                                                            refl,  -- 79
                                                                                                            (
                                                                                                              refl,  -- 80
                                                                                                              tt,
                                                                                                            ),
                                                                                                          ),
                                                                                                        ),
                                                                                                      ),
                                                                                                    ),
                                                                                                  ),
                                                                                                ),
                                                                                              ),
                                                                                            ),
                                                                                          ),
                                                                                        ),
                                                                                      ),
                                                                                    ),
                                                                                  ),
                                                                                ),
                                                                              ),
                                                                            ),
                                                                          ),
                                                                        ),
                                                                      ),
                                                                    ),
                                                                  ),
                                                                ),
                                                              ),
                                                            ),
                                                          ),
                                                        ),
                                                      ),
                                                    ),
                                                  ),
                                                ),
                                              ),
                                            ),
                                          ),
                                        ),
                                      ),
                                    ),
                                  ),
                                ),
                              ),
                            ),
                          ),
                        ),
                      ),
                    ),
                  ),
                ),
              ),
            ),
          ),
        ),
      ),
    ),
  ),
)
