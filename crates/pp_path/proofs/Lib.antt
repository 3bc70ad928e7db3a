mod LevelLists
